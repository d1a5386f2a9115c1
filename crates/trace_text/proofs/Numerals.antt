-- Plain digits are what `parse` reads and what `decimal` writes.
use Rattle.std.proofs.Common.{◌≡◌, ◌∙◌, ◌<◌, ◌^◌, cond, sym, ap, refl, arith, rules, ℕ, zero, suc, Bool, true, false, ◌&&◌, ◌||◌, List, [], ◌∷◌, length, get_or, not, ◌==◌, nat_lt, Some, None, Result, Ok, Err, IsUtf8}
use Rattle.std.proofs.lemmas.Bool.{false≢true}
use Rattle.std.proofs.lemmas.Bool.Decides.{nat_tests}
use Rattle.std.proofs.lemmas.Fmt.{IsAscii-from_digits, decimal-digits_value, decimal_digit, decimal_nonempty, digits_decimal, digits_value-decimal, first_decimal}
use Rattle.std.proofs.lemmas.Str.{IsUtf8-from_ascii}
use Rattle.std.proofs.lemmas.Str.Parse.{IsNumeralModel, numerals_by_value, parse_digits}
use Rattle.std.specs.Char.{is_ascii_digit}
use Rattle.std.specs.Fmt.{decimal}
use Rattle.std.specs.List.{list_all}
use Rattle.std.specs.Result.{OkIff, result_ok}
use Rattle.std.specs.Str.Parse.{ParsesUnsigned, digits_value}
use Rattle.trace_text.specs.Numbers.{is_plain, number_of}
use Rattle.trace_text.proofs.Cuts.{is_word}

pub own : IsNumeralModel (λ ds. list_all is_ascii_digit ds ≡ true) (digits_value 10)
own = numerals_by_value _ (search rules)

pub both : (a b : Bool) → (a && b) ≡ true → (a ≡ true) × (b ≡ true)
both true true e = (refl, refl)
both true false e = absurd (false≢true e)
both false b e = absurd (false≢true e)

plain_digits : (text : List ℕ) → is_plain text ≡ true → list_all is_ascii_digit text ≡ true
plain_digits [] h = refl
plain_digits (c ∷ cs) h = (both (list_all is_ascii_digit (c ∷ cs)) (not (c == 48) || (length cs == 0)) h).0

some_digit : (text : List ℕ) → is_plain text ≡ true → 0 < length text
some_digit [] h = absurd (false≢true h)
some_digit (c ∷ cs) h = omega arith

alone : (c n : ℕ) → (not (c == 48) || (n == 0)) ≡ true → c ≡ 48 → n ≡ 0
alone c n h at = grind (arith, nat_tests)

zero_alone : (text : List ℕ) → is_plain text ≡ true → get_or text 0 0 ≡ 48 → length text ≡ 1
zero_alone [] h at = absurd (false≢true h)
zero_alone (c ∷ cs) h at =
    let rest : length cs ≡ 0 = alone c (length cs) (both (list_all is_ascii_digit (c ∷ cs)) (not (c == 48) || (length cs == 0)) h).1 at in
    omega arith

-- plain digits are text
pub plain_text : (text : List ℕ) → is_plain text ≡ true → IsUtf8 text
plain_text text h = IsUtf8-from_ascii text (IsAscii-from_digits text (own.to text (plain_digits text h)))

-- Plain digits below 2^32 are their value's number; a greater value is none.
pub number_small : (text : List ℕ) → is_plain text ≡ true → digits_value 10 text < 2 ^ 32 → number_of text ≡ Some (digits_value 10 text)
number_small text plain small =
    let fits : nat_lt (digits_value 10 text) (2 ^ 32) ≡ true = grind (arith, nat_tests) in
    ap (λ b. cond (b && nat_lt (digits_value 10 text) (2 ^ 32)) (Some (digits_value 10 text)) None) plain
    ∙ ap (λ b. cond b (Some (digits_value 10 text)) None) fits

pub number_great : (text : List ℕ) → is_plain text ≡ true → (digits_value 10 text < 2 ^ 32 → ⊥) → number_of text ≡ None
number_great text plain great =
    let exceeds : nat_lt (digits_value 10 text) (2 ^ 32) ≡ false = grind (arith, nat_tests) in
    ap (λ b. cond (b && nat_lt (digits_value 10 text) (2 ^ 32)) (Some (digits_value 10 text)) None) plain
    ∙ ap (λ b. cond b (Some (digits_value 10 text)) None) exceeds

-- `parse` gives the number that plain digits are
pub number_read : {E : Type 0} (text : List ℕ) (r : Result ℕ E) → is_plain text ≡ true → ParsesUnsigned 32 10 text r → result_ok r ≡ number_of text
number_read {E = E} text r plain parses = go r (parse_digits own 32 text r parses (plain_digits text plain))
  where
    go : (r : Result ℕ E) → OkIff r ((0 < length text) × (digits_value 10 text < 2 ^ 32)) (digits_value 10 text) → result_ok r ≡ number_of text
    go (Ok n) p = ap (λ n. Some n) p.1 ∙ sym (number_small text plain p.0.1)
    go (Err e) p = sym (number_great text plain (λ small. p (some_digit text plain, small)))

-- digits without a zero before others are plain
plain_first : (c : ℕ) (cs : List ℕ) → list_all is_ascii_digit (c ∷ cs) ≡ true → (not (c == 48) || (length cs == 0)) ≡ true → is_plain (c ∷ cs) ≡ true
plain_first c cs digits first = ap (λ b. b && (not (c == 48) || (length cs == 0))) digits ∙ first

not_zero : (c n : ℕ) → 48 < c → (not (c == 48) || (n == 0)) ≡ true
not_zero c n first = grind (arith, nat_tests)

above_zero : (n : ℕ) (text : List ℕ) → list_all is_ascii_digit text ≡ true → 0 < length text → 48 < get_or text 0 0 → is_plain text ≡ true
above_zero n [] digits some first = absurd (omega (arith, some))
above_zero n (c ∷ cs) digits some first = plain_first c cs digits (not_zero c (length cs) first)

-- what `decimal` writes is plain
plain_decimal : (n : ℕ) → n < 2 ^ 32 → is_plain (decimal n) ≡ true
plain_decimal zero small = ap is_plain (decimal_digit 0 (omega arith))
plain_decimal (suc n) small =
    let within : suc n < 2 ^ 64 = omega (arith, small) in
    above_zero (suc n) (decimal (suc n)) (digits_decimal own (suc n) within) (decimal_nonempty (suc n) within) (first_decimal (suc n) (omega arith) within)

-- no digit is a space
pub decimal_word : (n : ℕ) → n < 2 ^ 32 → is_word (decimal n) ≡ true
decimal_word n small = digits_word (decimal n) (digits_decimal own n (omega (arith, small)))
  where
    digits_word : (ds : List ℕ) → list_all is_ascii_digit ds ≡ true → is_word ds ≡ true
    digits_word [] h = refl
    digits_word (d ∷ ds) h = let b = both (is_ascii_digit d) (list_all is_ascii_digit ds) h in grind (arith, nat_tests, b.0, digits_word ds b.1)

-- A number below 2^32 is that of its text, and of no other.
pub number_decimal : (n : ℕ) → n < 2 ^ 32 → number_of (decimal n) ≡ Some n
number_decimal n small =
    let value : digits_value 10 (decimal n) ≡ n = digits_value-decimal own n (omega (arith, small)) in
    number_small (decimal n) (plain_decimal n small) (omega (arith, value, small)) ∙ ap (λ n. Some n) value

pub decimal_number : (text : List ℕ) (n : ℕ) → number_of text ≡ Some n → (n < 2 ^ 32) × (text ≡ decimal n)
decimal_number text n said = go (is_plain text) (nat_lt (digits_value 10 text) (2 ^ 32)) refl refl said
  where
    go : (plain fits : Bool) → is_plain text ≡ plain → nat_lt (digits_value 10 text) (2 ^ 32) ≡ fits
        → cond (plain && fits) (Some (digits_value 10 text)) None ≡ Some n → (n < 2 ^ 32) × (text ≡ decimal n)
    go true true plain fits is =
        let value : digits_value 10 text ≡ n = search (rules, is) in
        let small : digits_value 10 text < 2 ^ 32 = grind (arith, nat_tests) in
        let written : decimal (digits_value 10 text) ≡ text
        = decimal-digits_value own text (plain_digits text plain) (some_digit text plain) (zero_alone text plain) (omega (arith, small)) in
        (omega (arith, small, value), sym written ∙ ap decimal value)
    go true false plain fits is = search (rules, is)
    go false fits plain not_fits is = search (rules, is)
