-- Lines that are written one after the other.
use Rattle.std.proofs.Common.{◌≡◌, ◌∙◌, ap, append_assoc, ℕ, List, [], ◌∷◌, ◌++◌, codes}
use Rattle.trace_text.specs.declared.header.Header.{Header}
use Rattle.trace_text.specs.Headers.{header_lines, part_text, shape_text, with_feeds}

-- one more line, before others
line_before : (out line : List ℕ) (lines : List (List ℕ)) → (out ++ (line ++ 10 ∷ [])) ++ with_feeds lines ≡ out ++ with_feeds (line ∷ lines)
line_before out line lines = append_assoc out (line ++ 10 ∷ []) (with_feeds lines) ∙ ap (λ t. out ++ t) (append_assoc line (10 ∷ []) (with_feeds lines))

five_lines : (out a b c d after la lb lc ld le : List ℕ) → a ≡ out ++ (la ++ 10 ∷ []) → b ≡ a ++ (lb ++ 10 ∷ []) → c ≡ b ++ (lc ++ 10 ∷ [])
    → d ≡ c ++ (ld ++ 10 ∷ []) → after ≡ d ++ (le ++ 10 ∷ []) → after ≡ out ++ with_feeds (la ∷ lb ∷ lc ∷ ld ∷ le ∷ [])
five_lines out a b c d after la lb lc ld le is_a is_b is_c is_d is_after =
    is_after ∙ ap (λ t. t ++ with_feeds (le ∷ [])) is_d
    ∙ line_before c ld (le ∷ []) ∙ ap (λ t. t ++ with_feeds (ld ∷ le ∷ [])) is_c
    ∙ line_before b lc (ld ∷ le ∷ []) ∙ ap (λ t. t ++ with_feeds (lc ∷ ld ∷ le ∷ [])) is_b
    ∙ line_before a lb (lc ∷ ld ∷ le ∷ []) ∙ ap (λ t. t ++ with_feeds (lb ∷ lc ∷ ld ∷ le ∷ [])) is_a
    ∙ line_before out la (lb ∷ lc ∷ ld ∷ le ∷ [])

pub header_written : (h : Header) (out a b c d after : List ℕ) → a ≡ out ++ (codes "adfs-trace 1" ++ 10 ∷ []) → b ≡ a ++ ((codes "manifest" ++ 32 ∷ h.manifest) ++ 10 ∷ [])
    → c ≡ b ++ ((codes "queries" ++ 32 ∷ h.queries) ++ 10 ∷ []) → d ≡ c ++ ((codes "shape" ++ shape_text h) ++ 10 ∷ [])
    → after ≡ d ++ ((codes "part" ++ 32 ∷ part_text h.part) ++ 10 ∷ []) → after ≡ out ++ with_feeds (header_lines h)
header_written h out a b c d after is_a is_b is_c is_d is_after =
    five_lines out a b c d after (codes "adfs-trace 1") (codes "manifest" ++ 32 ∷ h.manifest) (codes "queries" ++ 32 ∷ h.queries)
    (codes "shape" ++ shape_text h) (codes "part" ++ 32 ∷ part_text h.part) is_a is_b is_c is_d is_after
