-- Reading lists and optional parts.
use Rattle.std.specs.Prelude.{◌≡◌, ◌≤◌, ℕ, zero, suc, Bool, true, false, List, [], ◌∷◌, ◌++◌, length, Option, Some, None, Ok, Err}
use Rattle.pgql_lexemes.specs.declared.kind.Kind.{Kind}
use Rattle.pgql_lexemes.specs.Lexemes.{Lexeme}
use Rattle.pgql_lexemes.specs.Parsers.{unexpected, Parser, ◌>>=◌, ◌>>◌, pure, refuse, by_next, take_token, same_kind}

abbrev pub choose : {A : Type 0} → Parser A → Parser A → Bool → Parser A
choose p q true = p
choose p q false = q

-- what a parser leaves is no longer than what it was given, and at the end it refuses
pub record Shrinks {A : Type 0} (p : Parser A) : Type 0 where
  pub shorter : (ts : List Lexeme) (x : A) (rest : List Lexeme) → p ts ≡ Ok (x, rest) → length rest ≤ length ts
  pub at_end : p [] ≡ Err (unexpected, [])

module _ {A : Type 0} (item : Parser A) (mark : Kind) where
  -- after the items that were found, for at most this many
  unfoldable pub separated_from : ℕ → List A → Parser (List A)
  separated_from zero found = refuse unexpected
  separated_from (suc turns) found = do
    x ← item
    by_next (pure (found ++ x ∷ [])) (λ t. choose (take_token >> separated_from turns (found ++ x ∷ [])) (pure (found ++ x ∷ [])) (same_kind t.kind mark))

  abbrev pub separated : Parser (List A)
  separated = λ ts. separated_from (length ts) [] ts

  -- what the mark introduces, if it comes next
  unfoldable pub optional : Parser (Option A)
  optional = by_next (pure None) (λ t. choose (take_token >> (item >>= λ x. pure (Some x))) (pure None) (same_kind t.kind mark))

module _ {A : Type 0} (item : Parser A) (begins : Kind → Bool) where
  -- after the items that were found, as long as the next token begins one; at most this many
  unfoldable pub many_from : ℕ → List A → Parser (List A)
  many_from zero found = by_next (pure found) (λ t. choose (refuse unexpected) (pure found) (begins t.kind))
  many_from (suc turns) found = by_next (pure found) (λ t. choose (item >>= λ x. many_from turns (found ++ x ∷ [])) (pure found) (begins t.kind))

  abbrev pub many : Parser (List A)
  many = λ ts. many_from (length ts) [] ts

-- a part without a mark, if a token of this kind, which begins it, comes next
abbrev pub perhaps : {A : Type 0} → Parser A → Kind → Parser (Option A)
perhaps part kind = by_next (pure None) (λ t. choose (part >>= λ x. pure (Some x)) (pure None) (same_kind t.kind kind))

-- whether a token of this kind comes next, and the tokens after it if it does
abbrev pub sees : Kind → List Lexeme → Bool
sees kind [] = false
sees kind (t ∷ ts) = same_kind t.kind kind

abbrev pub after_by : Bool → List Lexeme → List Lexeme
after_by b [] = []
after_by true (t ∷ ts) = ts
after_by false (t ∷ ts) = t ∷ ts

abbrev pub after : Kind → List Lexeme → List Lexeme
after kind ts = after_by (sees kind ts) ts

-- whether an item that begins so comes next
abbrev pub begins_with : (Kind → Bool) → List Lexeme → Bool
begins_with begins [] = false
begins_with begins (t ∷ ts) = begins t.kind
