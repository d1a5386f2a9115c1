-- Texts that may name a file.
use Rattle.std.proofs.Common.{◌≡◌, ◌∙◌, ap, refl, cond, ℕ, Bool, true, false, ◌&&◌, not, ◌==◌, nat_le, List, length, Some, None, IsUtf8}
use Rattle.std.proofs.lemmas.Str.{IsUtf8-from_is_utf8, is_utf8-from_IsUtf8}
use Rattle.std.specs.List.{list_all}
use Rattle.std.specs.Str.{is_utf8}
use Rattle.trace_text.specs.Headers.{file_of}

by_tests : (text : List ℕ) (empty plain utf8 : Bool) → (length text == 0) ≡ empty → list_all (λ b. nat_le 32 b) text ≡ plain → is_utf8 text ≡ utf8
    → file_of text ≡ cond (not empty && (plain && utf8)) (Some text) None
by_tests text empty plain utf8 is_empty is_plain is_so =
    ap (λ e. cond (not e && (list_all (λ b. nat_le 32 b) text && is_utf8 text)) (Some text) None) is_empty
    ∙ ap (λ p. cond (not empty && (p && is_utf8 text)) (Some text) None) is_plain
    ∙ ap (λ u. cond (not empty && (plain && u)) (Some text) None) is_so

pub file_is : (text : List ℕ) → (length text == 0) ≡ false → list_all (λ b. nat_le 32 b) text ≡ true → IsUtf8 text → file_of text ≡ Some text
file_is text some plain utf8 = by_tests text false true true some plain (is_utf8-from_IsUtf8 text utf8)

not_utf8 : (text : List ℕ) (b : Bool) → is_utf8 text ≡ b → (IsUtf8 text → ⊥) → is_utf8 text ≡ false
not_utf8 text true is not = absurd (not (IsUtf8-from_is_utf8 text is))
not_utf8 text false is not = is

pub file_is_not : (text : List ℕ) → (length text == 0) ≡ false → list_all (λ b. nat_le 32 b) text ≡ true → (IsUtf8 text → ⊥) → file_of text ≡ None
file_is_not text some plain other = by_tests text false true false some plain (not_utf8 text (is_utf8 text) refl other)
