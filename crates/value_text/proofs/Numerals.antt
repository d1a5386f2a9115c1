-- What an int cell says, against what `parse` says.
use Rattle.std.proofs.Common.{◌≡◌, ◌≤◌, lit<, refl, arith, ◌<◌, ◌+◌, ◌-◌, ◌*◌, ◌^◌, ◌++◌, take, slice_index, ℕ, zero, suc, Bool, true, false, cond, ◌&&◌, ◌==◌, drop, ap, List, [], ◌∷◌, length, ℤ, pos, negsuc, Some, None, Ok, Err, Result, nat_lt, w64, IsUtf8}
use Rattle.std.proofs.lemmas.Bool.{false≢true}
use Rattle.std.proofs.lemmas.Int.Digits.{digits_value-lt, digits_value_push}
use Rattle.std.proofs.lemmas.List.{length-take, take_more}
use Rattle.std.proofs.Math.Nat.{pow-le-pow_right}
use Rattle.std.proofs.lemmas.Bool.Decides.{nat_tests}
use Rattle.std.proofs.lemmas.Fmt.{IsAscii-from_digits, decimal_is_IsNumeral}
use Rattle.std.proofs.lemmas.Str.{IsUtf8-from_ascii}
use Rattle.std.proofs.lemmas.Str.Parse.{digit_from_value}
use Rattle.std.specs.Char.{digit_value, is_ascii_digit}
use Rattle.std.specs.Fmt.{decimal}
use Rattle.std.specs.Int.RustNames.{FitsSigned}
use Rattle.std.specs.List.{list_all}
use Rattle.std.specs.Result.{result_ok}
use Rattle.std.specs.Str.{IsAscii}
use Rattle.std.specs.Str.Parse.{AllDigits, IsNumeral, ParsesSigned, digits_value, signed_digits_value, starts_with_minus, without_leading_sign}
use Rattle.value_text.specs.Numbers.{int_cell, is_i64, is_numeral}
use Rattle.value_text.specs.Shown.{shown_int}
use Rattle.value_text.specs.declared.cells.CellFault.{CellFault}
use Rattle.value_text.specs.declared.cells.CellFault.TheVariants as fault

both : (a b : Bool) → (a && b) ≡ true → (a ≡ true) × (b ≡ true)
both true true e = (refl, refl)
both true false e = absurd (false≢true e)
both false b e = absurd (false≢true e)

digit : (c : ℕ) → is_ascii_digit c ≡ true → digit_value c < 10
digit c h = grind (arith, nat_tests)

digit_back : (c : ℕ) → digit_value c < 10 → is_ascii_digit c ≡ true
digit_back c h = let r = digit_from_value c h in grind (arith, nat_tests)

digits : (ds : List ℕ) → list_all is_ascii_digit ds ≡ true → AllDigits 10 ds
digits [] h = tt
digits (c ∷ cs) h = let b = both (is_ascii_digit c) (list_all is_ascii_digit cs) h in (digit c b.0, digits cs b.1)

digits_back : (ds : List ℕ) → AllDigits 10 ds → list_all is_ascii_digit ds ≡ true
digits_back [] h = refl
digits_back (c ∷ cs) h = rw (digit_back c h.0, digits_back cs h.1) refl

pub numeral : (ds : List ℕ) → is_numeral ds ≡ true → IsNumeral 10 ds
numeral ds h = let b = both (nat_lt 0 (length ds)) (list_all is_ascii_digit ds) h in (grind (arith, nat_tests), digits ds b.1)

fits : (z : ℤ) → is_i64 z ≡ true → FitsSigned w64 z
fits (pos n) h = record { sfits = grind (arith, nat_tests) }
fits (negsuc n) h = record { sfits = grind (arith, nat_tests) }

fits_back : (z : ℤ) → FitsSigned w64 z → is_i64 z ≡ true
fits_back (pos n) h = let s = h.sfits in grind (arith, nat_tests)
fits_back (negsuc n) h = let s = h.sfits in grind (arith, nat_tests)

-- a text of the right form is ASCII
signed_ascii : (b : ℕ) (rest : List ℕ) → b < 128 → IsAscii rest → IsAscii (b ∷ rest)
signed_ascii b rest h k zero = h
signed_ascii b rest h k (suc i) = k i

front_ascii : (b : ℕ) (rest : List ℕ) → AllDigits 10 (without_leading_sign (b ∷ rest)) → IsAscii (b ∷ rest)
front_ascii b rest = by (starts_with_minus (b ∷ rest)) (b == 43) refl refl
  where
    by : (x y : Bool) → (b == 45) ≡ x → (b == 43) ≡ y → AllDigits 10 (cond x rest (drop (cond y 1 0) (b ∷ rest))) → IsAscii (b ∷ rest)
    by true y e f h = signed_ascii b rest (grind (arith, nat_tests)) (IsAscii-from_digits rest h)
    by false true e f h = signed_ascii b rest (grind (arith, nat_tests)) (IsAscii-from_digits rest h)
    by false false e f h = IsAscii-from_digits (b ∷ rest) h

pub numeral_text : (bytes : List ℕ) → is_numeral (without_leading_sign bytes) ≡ true → IsUtf8 bytes
numeral_text [] n = IsUtf8-from_ascii [] (λ i. omega arith)
numeral_text (b ∷ rest) n = IsUtf8-from_ascii (b ∷ rest) (front_ascii b rest (numeral (without_leading_sign (b ∷ rest)) n).1)

is_numeral-back : (ds : List ℕ) → IsNumeral 10 ds → is_numeral ds ≡ true
is_numeral-back ds own = let some : nat_lt 0 (length ds) ≡ true = grind (arith, nat_tests, own.0) in rw (some, digits_back ds own.1) refl

-- what `parse` gives of a text
pub number_is : {E : Type 0} (bytes : List ℕ) (r : Result ℤ E) → ParsesSigned w64 10 bytes r → result_ok r ≡ result_ok (int_cell bytes)
number_is bytes (Ok z) h = rw (is_numeral-back (without_leading_sign bytes) h.0.0, fits_back (signed_digits_value 10 bytes) h.0.1, h.1) refl
number_is bytes (Err e) h = by (is_numeral (without_leading_sign bytes)) (is_i64 (signed_digits_value 10 bytes)) refl refl
  where
    by : (b c : Bool) → is_numeral (without_leading_sign bytes) ≡ b → is_i64 (signed_digits_value 10 bytes) ≡ c → None ≡ result_ok (int_cell bytes)
    by true true n is = absurd (h (numeral (without_leading_sign bytes) n, fits (signed_digits_value 10 bytes) is))
    by true false n is = rw (n, is) refl
    by false c n is = rw n refl

-- bytes that are no text hold no number
pub number_none : (bytes : List ℕ) → (IsUtf8 bytes → ⊥) → None ≡ result_ok (int_cell bytes)
number_none bytes other = by (is_numeral (without_leading_sign bytes)) refl
  where
    by : (b : Bool) → is_numeral (without_leading_sign bytes) ≡ b → None ≡ result_ok (int_cell bytes)
    by true n = absurd (other (numeral_text bytes n))
    by false n = rw n refl

-- a cell with a number says that
pub int_of : (bytes : List ℕ) (z : ℤ) → Some z ≡ result_ok (int_cell bytes) → Ok z ≡ int_cell bytes
int_of bytes z is = by (int_cell bytes) is
  where
    by : (r : Result ℤ CellFault) → Some z ≡ result_ok r → Ok z ≡ r
    by (Ok y) e = ap Ok (cc e)
    by (Err e) f = cc f

-- and one without has the wrong form, or a number that is too wide
pub int_none : (bytes : List ℕ) → None ≡ result_ok (int_cell bytes) → is_numeral (without_leading_sign bytes) ≡ false → Err fault.BadInt ≡ int_cell bytes
int_none bytes is n = rw n refl

pub int_wide : (bytes : List ℕ) → None ≡ result_ok (int_cell bytes) → is_numeral (without_leading_sign bytes) ≡ true → Err fault.WideInt ≡ int_cell bytes
int_wide bytes is n = by (is_i64 (signed_digits_value 10 bytes)) refl
  where
    by : (b : Bool) → is_i64 (signed_digits_value 10 bytes) ≡ b → Err fault.WideInt ≡ int_cell bytes
    by true e = cc (rw (n, e) at is)
    by false e = rw (n, e) refl

-- digits have no sign before them
no_sign : (ds : List ℕ) → IsNumeral 10 ds → (without_leading_sign ds ≡ ds) × (starts_with_minus ds ≡ false)
no_sign [] own = absurd (omega (arith, own.0))
no_sign (d ∷ ds) own =
    let digit = digit_back d own.1.0 in
    let no_minus : (d == 45) ≡ false = grind (arith, nat_tests) in
    let no_plus : (d == 43) ≡ false = grind (arith, nat_tests) in
    (rw (no_minus, no_plus) refl, no_minus)

-- what a whole number of i64 shows reads as that number
pub ints_read_back : (z : ℤ) → is_i64 z ≡ true → int_cell (shown_int z) ≡ Ok z
ints_read_back (pos n) small =
    let own = decimal_is_IsNumeral n (grind (arith, nat_tests)) in
    let bare = no_sign (decimal n) own.0 in
    rw (bare.0, bare.1, is_numeral-back (decimal n) own.0, own.1, small) refl
ints_read_back (negsuc n) small =
    let own = decimal_is_IsNumeral (suc n) (grind (arith, nat_tests)) in
    rw (is_numeral-back (decimal (suc n)) own.0, own.1, small) refl

-- ---- digits that are read one after the other

digit_is : (c : ℕ) → is_ascii_digit c ≡ true → digit_value c ≡ c - 48
digit_is c h = grind (arith, nat_tests)

all_more : (ds : List ℕ) (c : ℕ) → list_all is_ascii_digit ds ≡ true → is_ascii_digit c ≡ true → list_all is_ascii_digit (ds ++ c ∷ []) ≡ true
all_more [] c all one = rw one refl
all_more (d ∷ ds) c all one = let b = both (is_ascii_digit d) (list_all is_ascii_digit ds) all in rw (b.0, all_more ds c b.1 one) refl

-- one digit more
module _ (cell : List ℕ) (i : ℕ) (less : i < length cell) (digit : is_ascii_digit (slice_index cell i) ≡ true) where
  pub digits_more : list_all is_ascii_digit (take i cell) ≡ true → list_all is_ascii_digit (take (i + 1) cell) ≡ true
  digits_more all = rw (take_more cell i 0 less) (all_more (take i cell) (slice_index cell i) all digit)

  pub value_more : (number : ℕ) → number ≡ digits_value 10 (take i cell) → number * 10 + (slice_index cell i - 48) ≡ digits_value 10 (take (i + 1) cell)
  value_more number is =
      rw (take_more cell i 0 less, digits_value_push 10 (take i cell) (slice_index cell i), digit_is (slice_index cell i) digit, is) refl

-- few digits are a small number
few_digits : (ds : List ℕ) (most : ℕ) → length ds ≤ most → list_all is_ascii_digit ds ≡ true → digits_value 10 ds < 10 ^ most
few_digits ds most few all =
    let bound = digits_value-lt 10 ds (digits ds all) in
    let more : 10 ^ length ds ≤ 10 ^ most = pow-le-pow_right (lit< tt) few in
    omega (arith, bound, more)

pub few_taken : (cell : List ℕ) (i most : ℕ) → i ≤ most → list_all is_ascii_digit (take i cell) ≡ true → digits_value 10 (take i cell) < 10 ^ most
few_taken cell i most few all = few_digits (take i cell) most (omega (arith, length-take i cell, few)) all
