-- A date's text reads as its day.
use Rattle.std.proofs.Common.{◌≡◌, ◌∙◌, ap, refl, arith, ◌<◌, ◌≤◌, ◌+◌, ◌/◌, ◌%◌, ◌++◌, ◌∷◌, ℕ, ℤ, pos, true, Some}
use Rattle.std.proofs.lemmas.Bool.Decides.{nat_tests}
use Rattle.std.proofs.lemmas.Int.{ints}
use Rattle.std.specs.Char.{is_ascii_digit}
use Rattle.jiff_core.specs.Calendar.{IsDate}
use Rattle.jiff_core.proofs.CalendarLemmas.{days_in_month_bounds}
use Rattle.jiff_fmt.specs.Text.{pad2, pad4}
use Rattle.value_text.specs.Dates.{IsDay, civil_day, date_cell, date_text, day_of, four, month_of, two, year_of}
use Rattle.value_text.proofs.Days.{date_found, day_is_civil}

tens : (n : ℕ) → n < 100 → is_ascii_digit (48 + n / 10) ≡ true
tens n h = grind (arith, nat_tests)

ones : (n : ℕ) → is_ascii_digit (48 + n % 10) ≡ true
ones n = grind (arith, nat_tests)

two_is : (n : ℕ) → two (48 + n / 10) (48 + n % 10) ≡ n
two_is n = omega arith

four_is : (y : ℕ) → four (48 + y / 100 / 10) (48 + y / 100 % 10) (48 + y % 100 / 10) (48 + y % 100 % 10) ≡ y
four_is y = omega arith

spelled_cell : (y m d : ℕ) → y ≤ 9999 → m < 100 → d < 100 → date_cell (pad4 y ++ 45 ∷ pad2 m ++ 45 ∷ pad2 d) ≡ civil_day y m d
spelled_cell y m d a b c =
    rw (tens (y / 100) (omega arith), ones (y / 100), tens (y % 100) (omega arith), ones (y % 100), tens m b, ones m, tens d c, ones d) (parts (four_is y) (two_is m) (two_is d))
  where
    parts : {p q r : ℕ} → p ≡ y → q ≡ m → r ≡ d → civil_day p q r ≡ civil_day y m d
    parts e f g = rw (e, f, g) refl

-- the text of a day reads as that day
pub dates_read_back : (day : ℤ) → IsDay day → date_cell (date_text day) ≡ Some day
dates_read_back day in_days =
    let is = day_is_civil day in_days in
    let y = year_of day in
    let m = month_of day in
    let d = day_of day in
    let civil : IsDate (pos y) (pos m) (pos d) =
    (is.1.0, (omega (arith, ints, is.1.1), omega (arith, ints, is.1.1)), (omega (arith, ints, is.1.2), omega (arith, ints, is.1.2))) in
    spelled_cell y m d is.0 (omega (arith, is.1.1)) (omega (arith, is.1.2, days_in_month_bounds (pos y) m)) ∙ date_found y m d civil ∙ ap Some is.2
