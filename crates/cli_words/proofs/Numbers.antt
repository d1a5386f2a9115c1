-- A word of digits alone is what `parse` calls a numeral.
use Rattle.std.proofs.Common.{◌≡◌, ◌<◌, ◌^◌, sym, subst, refl, arith, ℕ, Bool, true, false, ◌&&◌, List, [], ◌∷◌, length, None, not, ◌==◌, nat_le, nat_lt}
use Rattle.std.proofs.lemmas.Bool.{false≢true}
use Rattle.std.proofs.lemmas.Bool.Decides.{nat_tests}
use Rattle.std.proofs.lemmas.Str.Parse.{without_leading_plus_none}
use Rattle.std.specs.Char.{digit_value, is_ascii_digit}
use Rattle.std.specs.List.{list_all}
use Rattle.std.specs.Str.Parse.{AllDigits, IsNumeral, digits_value, without_leading_plus}
use Rattle.cli_words.specs.Values.{is_number, number_of}

both : (a b : Bool) → (a && b) ≡ true → (a ≡ true) × (b ≡ true)
both true true e = (refl, refl)
both true false e = absurd (false≢true e)
both false b e = absurd (false≢true e)

digit : (c : ℕ) → is_ascii_digit c ≡ true → digit_value c < 10
digit c h = grind (arith, nat_tests)

digits : (ds : List ℕ) → list_all is_ascii_digit ds ≡ true → AllDigits 10 ds
digits [] h = tt
digits (c ∷ cs) h = let b = both (is_ascii_digit c) (list_all is_ascii_digit cs) h in (digit c b.0, digits cs b.1)

no_plus : (c : ℕ) → is_ascii_digit c ≡ true → c ≡ 43 → ⊥
no_plus c h e = grind (arith, nat_tests)

-- no sign stands before digits
unsigned : (ds : List ℕ) → list_all is_ascii_digit ds ≡ true → without_leading_plus ds ≡ ds
unsigned [] h = refl
unsigned (c ∷ cs) h = let b = both (is_ascii_digit c) (list_all is_ascii_digit cs) h in without_leading_plus_none (c ∷ cs) (λ e. no_plus c b.0 e)

not_empty : (n : ℕ) → not (n == 0) ≡ true → 0 < n
not_empty n h = grind (arith, nat_tests)

-- a word of the form that `parse` refuses is too great
pub number_none : (word : List ℕ) → is_number word ≡ true
    → (IsNumeral 10 (without_leading_plus word) × (digits_value 10 (without_leading_plus word) < 2 ^ 64) → ⊥) → number_of word ≡ None
number_none word n refused = by (nat_lt (digits_value 10 word) (2 ^ 64)) refl
  where
    form : (not (length word == 0) ≡ true) × (list_all is_ascii_digit word ≡ true)
    form =
        let outer = both (not (length word == 0) && nat_le (length word) 20) (list_all is_ascii_digit word) n in
        ((both (not (length word == 0)) (nat_le (length word) 20) outer.0).0, outer.1)

    small : nat_lt (digits_value 10 word) (2 ^ 64) ≡ true → digits_value 10 word < 2 ^ 64
    small is = grind (arith, nat_tests)

    by : (b : Bool) → nat_lt (digits_value 10 word) (2 ^ 64) ≡ b → number_of word ≡ None
    by true is =
        absurd (refused (subst (λ ds. IsNumeral 10 ds × (digits_value 10 ds < 2 ^ 64)) (sym (unsigned word form.1)) ((not_empty (length word) form.0, digits word form.1), small is)))
    by false is = rw (n, is) refl
