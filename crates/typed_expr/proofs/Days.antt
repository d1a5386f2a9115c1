-- The texts of dates name days.
use Rattle.std.proofs.Common.{◌≡◌, refl, subst, ℕ, ℤ, ◌≤◌, ◌==◌, Bool, true, false, ◌&&◌, if◌then◌else◌, List, length, Option, Some, None, arith}
use Rattle.std.specs.Prelude.{slice_index}
use Rattle.std.specs.Char.{is_ascii_digit}
use Rattle.std.proofs.lemmas.Bool.Decides.{nat_tests}
use Rattle.std.proofs.lemmas.Int.{ints}
use Rattle.value_text.specs.Dates.{IsDay, civil_day, date_cell, day_in, digit_at, has_date_form, has_month, has_year, is_civil, month_in, year_in}
use Rattle.value_text.proofs.Days.{date_in_range}

both : (a b : Bool) → (a && b) ≡ true → (a ≡ true) × (b ≡ true)
both true true is = (refl, refl)
both true false is = absurd cc
both false b is = absurd cc

where_some : {X : Type 0} (t : Bool) (x y : X) → (if t then Some x else None) ≡ Some y → (t ≡ true) × (x ≡ y)
where_some true x y is = (refl, cc)
where_some false x y is = absurd cc

then_some : {X : Type 0} (t : Bool) (found : Option X) (y : X) → (if t then found else None) ≡ Some y → (t ≡ true) × (found ≡ Some y)
then_some true found y is = (refl, is)
then_some false found y is = absurd cc

day_of_civil : (y m d : ℕ) (day : ℤ) → y ≤ 9999 → civil_day y m d ≡ Some day → IsDay day
day_of_civil y m d day small is =
    let parts = where_some (is_civil y m d) _ day is in
    let civil = parts.0 in
    let within = date_in_range y m d small ((omega (arith, ints), omega (arith, ints)), (grind (arith, ints, nat_tests), grind (arith, ints, nat_tests)), (grind (arith, ints, nat_tests), grind (arith, ints, nat_tests))) in
    subst IsDay parts.1 within

digit : (b : ℕ) → is_ascii_digit b ≡ true → b ≤ 57
digit b is = grind (arith, nat_tests)

small_year : (text : List ℕ) → has_date_form text ≡ true → year_in text ≤ 9999
small_year text is =
    let month = (both (has_month text) (digit_at text 8) (both (has_month text && digit_at text 8) (digit_at text 9) is).0).0 in
    let sixth = both (has_year text && digit_at text 5) (digit_at text 6) (both (has_year text && digit_at text 5 && digit_at text 6) (slice_index text 7 == 45) month).0 in
    let year = (both (has_year text) (digit_at text 5) sixth.0).0 in
    let ten = length text == 10 in
    let fourth = both (ten && digit_at text 0 && digit_at text 1 && digit_at text 2) (digit_at text 3) (both (ten && digit_at text 0 && digit_at text 1 && digit_at text 2 && digit_at text 3) (slice_index text 4 == 45) year).0 in
    let third = both (ten && digit_at text 0 && digit_at text 1) (digit_at text 2) fourth.0 in
    let second = both (ten && digit_at text 0) (digit_at text 1) third.0 in
    let first = both ten (digit_at text 0) second.0 in
    omega (
      arith,
      digit (slice_index text 0) first.1,
      digit (slice_index text 1) second.1,
      digit (slice_index text 2) third.1,
      digit (slice_index text 3) fourth.1,
    )

pub date_is_day : (text : List ℕ) (day : ℤ) → date_cell text ≡ Some day → IsDay day
date_is_day text day is =
    let parts = then_some (has_date_form text) (civil_day (year_in text) (month_in text) (day_in text)) day is in
    day_of_civil (year_in text) (month_in text) (day_in text) day (small_year text parts.0) parts.1
