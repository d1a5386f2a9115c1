-- Plain digits, against what `parse` reads.
use Rattle.std.proofs.Common.{◌≡◌, ◌<◌, ◌^◌, sym, subst, refl, arith, ℕ, Bool, true, false, ◌&&◌, ◌||◌, List, [], ◌∷◌, length, min, not, ◌==◌, IsUtf8}
use Rattle.std.proofs.lemmas.Bool.{false≢true}
use Rattle.std.proofs.lemmas.Bool.Decides.{nat_tests}
use Rattle.std.proofs.lemmas.Fmt.{IsAscii-from_digits}
use Rattle.std.proofs.lemmas.Str.{IsUtf8-from_ascii}
use Rattle.std.proofs.lemmas.Str.Parse.{without_leading_plus_none}
use Rattle.std.specs.Char.{digit_value, is_ascii_digit}
use Rattle.std.specs.List.{list_all}
use Rattle.std.specs.Str.Parse.{AllDigits, IsNumeral, digits_value, without_leading_plus}
use Rattle.partition.specs.OwnerFile.{is_plain}

both : (a b : Bool) → (a && b) ≡ true → (a ≡ true) × (b ≡ true)
both true true e = (refl, refl)
both true false e = absurd (false≢true e)
both false b e = absurd (false≢true e)

digit : (c : ℕ) → is_ascii_digit c ≡ true → digit_value c < 10
digit c h = grind (arith, nat_tests)

digits : (ds : List ℕ) → list_all is_ascii_digit ds ≡ true → AllDigits 10 ds
digits [] h = tt
digits (c ∷ cs) h = let b = both (is_ascii_digit c) (list_all is_ascii_digit cs) h in (digit c b.0, digits cs b.1)

no_plus : (c : ℕ) → is_ascii_digit c ≡ true → c ≡ 43 → ⊥
no_plus c h e = grind (arith, nat_tests)

plain_digits : (text : List ℕ) → is_plain text ≡ true → list_all is_ascii_digit text ≡ true
plain_digits [] h = refl
plain_digits (c ∷ cs) h = (both (list_all is_ascii_digit (c ∷ cs)) (not (c == 48) || (length cs == 0)) h).0

numeral : (text : List ℕ) → is_plain text ≡ true → IsNumeral 10 text
numeral [] h = absurd (false≢true h)
numeral (c ∷ cs) h = (omega arith, digits (c ∷ cs) (plain_digits (c ∷ cs) h))

unsigned : (text : List ℕ) → is_plain text ≡ true → without_leading_plus text ≡ text
unsigned [] h = refl
unsigned (c ∷ cs) h =
    let b = both (is_ascii_digit c) (list_all is_ascii_digit cs) (plain_digits (c ∷ cs) h) in without_leading_plus_none (c ∷ cs) (λ e. no_plus c b.0 e)

-- plain digits are text
pub plain_text : (text : List ℕ) → is_plain text ≡ true → IsUtf8 text
plain_text text h = IsUtf8-from_ascii text (IsAscii-from_digits text (digits text (plain_digits text h)))

-- plain digits that `parse` refuses are too great
pub too_great : (text : List ℕ) → is_plain text ≡ true
    → (IsNumeral 10 (without_leading_plus text) × (digits_value 10 (without_leading_plus text) < 2 ^ 32) → ⊥) → 4294967295 ≡ min (digits_value 10 text) 4294967295
too_great text h refused =
    let not_less : digits_value 10 text < 2 ^ 32 → ⊥ = λ less. refused (subst (λ ds. IsNumeral 10 ds × (digits_value 10 ds < 2 ^ 32)) (sym (unsigned text h)) (numeral text h, less)) in
    omega arith
