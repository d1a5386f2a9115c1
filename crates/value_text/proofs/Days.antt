-- Day numbers and the texts of dates.
use Rattle.std.proofs.Common.{◌≡◌, refl, arith, ◌<◌, ◌≤◌, ◌+◌, ◌-◌, ℕ, zero, suc, Bool, true, false, cond, List, ◌∷◌, ℤ, pos, negsuc, ◌<ℤ◌, ◌≤ℤ◌, ◌+ℤ◌, ◌-ℤ◌, Some, None, int_lt, unsigned_abs}
use Rattle.std.proofs.lemmas.Int.{ints}
use Rattle.std.proofs.lemmas.Bool.{cases_lt, false≢true}
use Rattle.std.proofs.Common.{◌&&◌, ◌==◌, slice_index}
use Rattle.std.proofs.lemmas.Bool.Decides.{nat_tests}
use Rattle.std.proofs.Common.{inl, inr, ◌⊎◌}
use Rattle.jiff_core.specs.Calendar.{IsEpochDay, IsCivilDate, IsDate, days_from_civil, days_in_month, day_count}
use Rattle.jiff_core.proofs.CalendarLemmas.{day_count_bounds, day_count-day, day_count-lt_year, day_count-lt_month, days_from_civil-day_count, days_in_month_bounds}
use Rattle.jiff_core.proofs.DateLemmas.{days_from_civil-day, days_from_civil-max, days_from_civil-min, days_from_civil-next_month, days_from_civil-next_year}
use Rattle.jiff_core.specs.Date.{epoch_day}
use Rattle.jiff_core.specs.declared.civil.date.Date.{Date}
use Rattle.jiff_fmt.specs.Text.{pad2, pad4}
use Rattle.std.proofs.Common.{◌++◌, neg_ℤ}
use Rattle.value_text.specs.Dates.{IsDay, date_text, civil_day, digit_at, has_date_form, has_month, has_year, day_of, is_civil, month_of, month_up_to, year_of, year_up_to}

-- a civil date before another has a smaller day number
earlier : (y : ℤ) (m d : ℕ) (z : ℤ) (m2 d2 : ℕ) → day_count y m d < day_count z m2 d2 → int_lt (days_from_civil y m d) (days_from_civil z m2 d2) ≡ true
earlier y m d z m2 d2 h = grind (arith, ints, days_from_civil-day_count y m d, days_from_civil-day_count z m2 d2)

not_earlier : (y : ℤ) (m d : ℕ) (z : ℤ) (m2 d2 : ℕ) → day_count z m2 d2 ≤ day_count y m d → int_lt (days_from_civil y m d) (days_from_civil z m2 d2) ≡ false
not_earlier y m d z m2 d2 h = grind (arith, ints, days_from_civil-day_count y m d, days_from_civil-day_count z m2 d2)

-- the first day of a date's month and of its year
month_starts : (y : ℤ) (m d : ℕ) → 1 ≤ d → day_count y m 1 ≤ day_count y m d
month_starts y m d h = omega (arith, day_count-day y m d 1 h (omega arith))

month_order : (y : ℤ) (k m d : ℕ) → IsCivilDate y m d → 1 ≤ k → k ≤ m → day_count y k 1 ≤ day_count y m d
month_order y k m d civil low h = by (cases_lt k m)
  where
    by : (k < m) ⊎ (m ≤ k) → day_count y k 1 ≤ day_count y m d
    by (inl less) = let lt = day_count-lt_month y k 1 m d (civil.0, (low, omega (arith, civil.1)), (omega arith, omega (arith, days_in_month_bounds y k))) (omega (arith, civil.2)) less in omega arith
    by (inr same) = let e : k ≡ m = omega arith in rw e (month_starts y m d (omega (arith, civil.2)))

pub year_is : (n y m d : ℕ) → y ≤ n → IsCivilDate (pos y) m d → year_up_to n (days_from_civil (pos y) m d) ≡ y
unfolding year_up_to
year_is zero y m d h civil = omega arith
year_is (suc n) y m d h civil = by (cases_lt y (suc n)) (λ low. year_is n y m d low civil)
  where
    by : (y < suc n) ⊎ (suc n ≤ y) → (y ≤ n → year_up_to n (days_from_civil (pos y) m d) ≡ y) → year_up_to (suc n) (days_from_civil (pos y) m d) ≡ y
    by (inl less) more = rw (earlier (pos y) m d (pos (suc n)) 1 1 (day_count-lt_year (pos y) m d (pos (suc n)) 1 1 civil (omega arith) (omega (arith, ints)))) (more (omega arith))
    by (inr same) more = let e : suc n ≡ y = omega arith in rw (e, not_earlier (pos y) m d (pos y) 1 1 (month_order (pos y) 1 m d civil (omega arith) (omega (arith, civil.1)))) refl

pub month_is : (n : ℕ) (y : ℤ) (m d : ℕ) → m ≤ n + 1 → n ≤ 11 → IsCivilDate y m d → month_up_to n y (days_from_civil y m d) ≡ m
unfolding month_up_to
month_is zero y m d h small civil = omega (arith, civil.1)
month_is (suc n) y m d h small civil = by (cases_lt m (suc n + 1)) (λ low. month_is n y m d low (omega arith) civil)
  where
    by : (m < suc n + 1) ⊎ (suc n + 1 ≤ m) → (m ≤ n + 1 → month_up_to n y (days_from_civil y m d) ≡ m) → month_up_to (suc n) y (days_from_civil y m d) ≡ m
    by (inl less) more = rw (earlier y m d y (suc n + 1) 1 (day_count-lt_month y m d (suc n + 1) 1 civil (omega arith) (omega arith))) (more (omega arith))
    by (inr same) more = let e : suc n + 1 ≡ m = omega arith in rw (e, not_earlier y m d y m 1 (month_starts y m d (omega (arith, civil.2)))) refl

day_is : (y : ℤ) (m d : ℕ) → 1 ≤ d → unsigned_abs (days_from_civil y m d -ℤ days_from_civil y m 1) + 1 ≡ d
day_is y m d h = let e = days_from_civil-day y m d 1 h (omega arith) in let g : days_from_civil y m d -ℤ days_from_civil y m 1 ≡ pos (d - 1) = omega (arith, ints) in rw g (omega arith)

-- a civil date is that of its day number
pub parts : (y m d : ℕ) → y ≤ 9999 → IsCivilDate (pos y) m d → let day = days_from_civil (pos y) m d in (year_of day ≡ y) × (month_of day ≡ m) × (day_of day ≡ d)
parts y m d h civil =
    let a = year_is 9999 y m d h civil in
    let b = month_is 11 (pos y) m d (omega (arith, civil.1)) (omega arith) civil in
    (a, rw a b, rw (a, b) (day_is (pos y) m d (omega (arith, civil.2))))

civil_true : (y m d : ℕ) → IsDate (pos y) (pos m) (pos d) → is_civil y m d ≡ true
civil_true y m d h = grind (arith, nat_tests, ints)

civil_false : (y m d : ℕ) → y ≤ 9999 → (IsDate (pos y) (pos m) (pos d) → ⊥) → is_civil y m d ≡ false
civil_false y m d small h = by (is_civil y m d) refl
  where
    by : (b : Bool) → is_civil y m d ≡ b → is_civil y m d ≡ false
    by false e = e
    by true e = absurd (h ((omega (arith, ints), omega (arith, ints)), (grind (arith, ints, nat_tests), grind (arith, ints, nat_tests)), (grind (arith, ints, nat_tests), grind (arith, ints, nat_tests))))

pub date_found : (y m d : ℕ) → IsDate (pos y) (pos m) (pos d) → civil_day y m d ≡ Some (days_from_civil (pos y) m d)
date_found y m d is = rw (civil_true y m d is) refl

pub date_none : (y m d : ℕ) → y ≤ 9999 → (IsDate (pos y) (pos m) (pos d) → ⊥) → civil_day y m d ≡ None
date_none y m d small not = rw (civil_false y m d small not) refl

both : (a b : Bool) → (a && b) ≡ true → (a ≡ true) × (b ≡ true)
both true true e = (refl, refl)
both true false e = absurd (false≢true e)
both false b e = absurd (false≢true e)

pub month_digits : (text : List ℕ) → has_date_form text ≡ true → (digit_at text 5 ≡ true) × (digit_at text 6 ≡ true)
month_digits text h =
    let month = (both (has_month text) (digit_at text 8) (both (has_month text && digit_at text 8) (digit_at text 9) h).0).0 in
    let six = both (has_year text && digit_at text 5) (digit_at text 6) (both (has_year text && digit_at text 5 && digit_at text 6) (slice_index text 7 == 45) month).0 in
    ((both (has_year text) (digit_at text 5) six.0).1, six.1)

pub day_digits : (text : List ℕ) → has_date_form text ≡ true → (digit_at text 8 ≡ true) × (digit_at text 9 ≡ true)
day_digits text h = let nine = both (has_month text && digit_at text 8) (digit_at text 9) h in ((both (has_month text) (digit_at text 8) nine.0).1, nine.1)

-- a date of these days has a year from 0 to 9999
year_of_day : (y : ℤ) (m d : ℕ) → IsCivilDate y m d → IsDay (days_from_civil y m d) → (n : ℕ) × (y ≡ pos n) × (n ≤ 9999)
year_of_day (pos n) m d civil day = (n, refl, omega (arith, ints, civil.0))
year_of_day (negsuc n) m d civil day =
    let less = earlier (negsuc n) m d (pos 0) 1 1 (day_count-lt_year (negsuc n) m d (pos 0) 1 1 civil (omega arith) (omega (arith, ints))) in
    absurd (grind (arith, ints, less, day.0))

same_text : (y m d a b c : ℕ) → a ≡ y → b ≡ m → c ≡ d → pad4 y ++ 45 ∷ pad2 m ++ 45 ∷ pad2 d ≡ pad4 a ++ 45 ∷ pad2 b ++ 45 ∷ pad2 c
same_text y m d a b c e f g = rw (e, f, g) refl

-- what a date writes is its day number's text
pub text_is : (date : Date) (day : ℤ) → epoch_day date ≡ day → IsDay day
    → (y : ℕ) × (date.year ≡ pos y) × (y ≤ 9999) × (pad4 y ++ 45 ∷ pad2 date.month ++ 45 ∷ pad2 date.day ≡ date_text day)
text_is date day e is =
    let civil : IsCivilDate date.year date.month date.day = (date.year_in, date.month_in, date.day_in) in
    let w = year_of_day date.year date.month date.day civil (rw e is) in
    let p = parts w.0 date.month date.day w.2 (rw w.1 at civil) in
    let f : days_from_civil (pos w.0) date.month date.day ≡ day = rw w.1 at e in
    let q = rw f at p in
    (w.0, w.1, w.2, same_text w.0 date.month date.day (year_of day) (month_of day) (day_of day) q.0 q.1 q.2)

days_from_civil-zero : neg_ℤ (pos 4_371_587) ≤ℤ days_from_civil (pos 0) 1 1
days_from_civil-zero = omega (arith, ints, days_from_civil-day_count (pos 0) 1 1, (day_count_bounds (pos 0) 1 1 ((omega (arith, ints), omega (arith, ints)), (omega arith, omega arith), (omega arith, omega (arith, days_in_month_bounds (pos 0) 1)))).0)

-- each of these days is one of the calendar
pub in_range : (day : ℤ) → IsDay day → IsEpochDay day
in_range day h = (omega (arith, ints, h.0, days_from_civil-min, days_from_civil-zero), omega (arith, ints, h.1, days_from_civil-max))

-- dates in order have day numbers in order
in_order : (y : ℤ) (m d : ℕ) (z : ℤ) (n e : ℕ) → day_count y m d ≤ day_count z n e → days_from_civil y m d ≤ℤ days_from_civil z n e
in_order y m d z n e h = omega (arith, ints, days_from_civil-day_count y m d, days_from_civil-day_count z n e)

-- no date of a year is after its last day
before_end : (y : ℤ) (m d : ℕ) → IsCivilDate y m d → day_count y m d ≤ day_count y 12 31
before_end y m d civil = by (cases_lt m 12)
  where
    by : (m < 12) ⊎ (12 ≤ m) → day_count y m d ≤ day_count y 12 31
    by (inl less) = omega (arith, day_count-lt_month y m d 12 31 civil (omega arith) less)
    by (inr last) =
        let e : m ≡ 12 = omega (arith, civil.1) in
        let small : d ≤ 31 = omega (arith, civil.2, days_in_month_bounds y m) in
        rw e (omega (arith, day_count-day y 12 d 31 (omega (arith, civil.2)) (omega arith)))

-- a date of a year from 0 to 9999 is one of these days
civil_in_range : (y m d : ℕ) → y ≤ 9999 → IsCivilDate (pos y) m d → IsDay (days_from_civil (pos y) m d)
civil_in_range y m d small civil = (in_order (pos 0) 1 1 (pos y) m d (not_before (cases_lt 0 y)), in_order (pos y) m d (pos 9999) 12 31 (not_after (cases_lt y 9999)))
  where
    first : IsCivilDate (pos 0) 1 1
    first = ((omega (arith, ints), omega (arith, ints)), (omega arith, omega arith), (omega arith, omega (arith, days_in_month_bounds (pos 0) 1)))

    not_before : (0 < y) ⊎ (y ≤ 0) → day_count (pos 0) 1 1 ≤ day_count (pos y) m d
    not_before (inl later) = omega (arith, day_count-lt_year (pos 0) 1 1 (pos y) m d first (omega (arith, civil.2)) (omega (arith, ints)))
    not_before (inr same) = let e : y ≡ 0 = omega arith in rw (← e) (month_order (pos y) 1 m d civil (omega arith) (omega (arith, civil.1)))

    not_after : (y < 9999) ⊎ (9999 ≤ y) → day_count (pos y) m d ≤ day_count (pos 9999) 12 31
    not_after (inl less) = omega (arith, day_count-lt_year (pos y) m d (pos 9999) 12 31 civil (omega arith) (omega (arith, ints)))
    not_after (inr same) = let e : 9999 ≡ y = omega arith in rw e (before_end (pos y) m d civil)

pub date_in_range : (y m d : ℕ) → y ≤ 9999 → IsDate (pos y) (pos m) (pos d) → IsDay (days_from_civil (pos y) m d)
date_in_range y m d small is =
    civil_in_range y m d small (is.0, (omega (arith, ints, is.1), omega (arith, ints, is.1)), (omega (arith, ints, is.2), omega (arith, ints, is.2)))

-- the year of a day: it has begun, and the next one up to n has not
record IsYearOf (y n : ℕ) (day : ℤ) : Type 0 where
  within : y ≤ n
  begun : days_from_civil (pos y) 1 1 ≤ℤ day
  not_over : y < n → day <ℤ days_from_civil (pos (suc y)) 1 1

not_over_yet : (y n : ℕ) (day : ℤ) → IsYearOf y n day → day <ℤ days_from_civil (pos (suc n)) 1 1 → day <ℤ days_from_civil (pos (suc y)) 1 1
not_over_yet y n day is next = by (cases_lt y n)
  where
    by : (y < n) ⊎ (n ≤ y) → day <ℤ days_from_civil (pos (suc y)) 1 1
    by (inl less) = is.not_over less
    by (inr last) = let same : y ≡ n = omega (arith, is.within) in rw same next

year_up_to-is : (n : ℕ) (day : ℤ) → days_from_civil (pos 0) 1 1 ≤ℤ day → IsYearOf (year_up_to n day) n day
unfolding year_up_to
year_up_to-is zero day low = record { within = omega arith; begun = low; not_over = λ h. absurd (omega (arith, h)) }
year_up_to-is (suc n) day low = by (int_lt day (days_from_civil (pos (suc n)) 1 1)) refl (year_up_to-is n day low)
  where
    by : (b : Bool) → int_lt day (days_from_civil (pos (suc n)) 1 1) ≡ b → IsYearOf (year_up_to n day) n day → IsYearOf (cond b (year_up_to n day) (suc n)) (suc n) day
    by true e before = record {
      within = omega (arith, before.within);
      begun = before.begun;
      not_over = λ h. not_over_yet (year_up_to n day) n day before (grind (arith, ints));
    }
    by false e before = record { within = omega arith; begun = grind (arith, ints); not_over = λ h. absurd (omega (arith, h)) }

-- the month of a day likewise
record IsMonthOf (m n : ℕ) (y day : ℤ) : Type 0 where
  least : 1 ≤ m
  within : m ≤ n + 1
  begun : days_from_civil y m 1 ≤ℤ day
  not_over : m < n + 1 → day <ℤ days_from_civil y (m + 1) 1

month_not_over_yet : (m n : ℕ) (y day : ℤ) → IsMonthOf m n y day → day <ℤ days_from_civil y (suc n + 1) 1 → day <ℤ days_from_civil y (m + 1) 1
month_not_over_yet m n y day is next = by (cases_lt m (n + 1))
  where
    by : (m < n + 1) ⊎ (n + 1 ≤ m) → day <ℤ days_from_civil y (m + 1) 1
    by (inl less) = is.not_over less
    by (inr last) = let same : m + 1 ≡ suc n + 1 = omega (arith, is.within) in rw same next

month_up_to-is : (n : ℕ) (y day : ℤ) → days_from_civil y 1 1 ≤ℤ day → IsMonthOf (month_up_to n y day) n y day
unfolding month_up_to
month_up_to-is zero y day low = record { least = omega arith; within = omega arith; begun = low; not_over = λ h. absurd (omega (arith, h)) }
month_up_to-is (suc n) y day low = by (int_lt day (days_from_civil y (suc n + 1) 1)) refl (month_up_to-is n y day low)
  where
    by : (b : Bool) → int_lt day (days_from_civil y (suc n + 1) 1) ≡ b → IsMonthOf (month_up_to n y day) n y day → IsMonthOf (cond b (month_up_to n y day) (suc n + 1)) (suc n) y day
    by true e before = record {
      least = before.least;
      within = omega (arith, before.within);
      begun = before.begun;
      not_over = λ h. month_not_over_yet (month_up_to n y day) n y day before (grind (arith, ints));
    }
    by false e before = record { least = omega arith; within = omega arith; begun = grind (arith, ints); not_over = λ h. absurd (omega (arith, h)) }

-- no day of a year is after its 31 December
year_end : (y : ℕ) (day : ℤ) → IsYearOf y 9999 day → day ≤ℤ days_from_civil (pos 9999) 12 31 → day ≤ℤ days_from_civil (pos y) 12 31
year_end y day is high = by (cases_lt y 9999)
  where
    by : (y < 9999) ⊎ (9999 ≤ y) → day ≤ℤ days_from_civil (pos y) 12 31
    by (inl less) =
        let next : days_from_civil (pos (suc y)) 1 1 ≡ days_from_civil (pos y) 12 31 +ℤ pos 1 = days_from_civil-next_year (pos y) (pos (suc y)) (omega (arith, ints)) (omega (arith, ints)) in
        omega (arith, ints, is.not_over less, next)
    by (inr last) = let same : y ≡ 9999 = omega (arith, is.within) in rw same high

-- nor one of a month after its last day
month_end : (y : ℤ) (m : ℕ) (day : ℤ) → IsMonthOf m 11 y day → day ≤ℤ days_from_civil y 12 31 → day ≤ℤ days_from_civil y m (days_in_month y m)
month_end y m day is high = by (cases_lt m 12)
  where
    by : (m < 12) ⊎ (12 ≤ m) → day ≤ℤ days_from_civil y m (days_in_month y m)
    by (inl less) = omega (arith, ints, is.not_over less, days_from_civil-next_month y m (days_in_month y m) is.least refl)
    by (inr last) = let same : m ≡ 12 = omega (arith, is.within) in rw same high

itself : (z : ℤ) → pos 0 ≤ℤ z → pos (unsigned_abs z) ≡ z
itself (pos n) h = refl
itself (negsuc n) h = absurd (omega (arith, ints, h))

-- each of these days is a civil date
pub day_is_civil : (day : ℤ) → IsDay day
    → (year_of day ≤ 9999) × IsCivilDate (pos (year_of day)) (month_of day) (day_of day) × (days_from_civil (pos (year_of day)) (month_of day) (day_of day) ≡ day)
day_is_civil day in_days =
    let year = year_up_to-is 9999 day in_days.0 in
    let y = year_of day in
    let month = month_up_to-is 11 (pos y) day year.begun in
    let m = month_of day in
    let last = days_in_month (pos y) m in
    let end = month_end (pos y) m day month (year_end y day year in_days.1) in
    let some : 1 ≤ last = omega (arith, days_in_month_bounds (pos y) m) in
    let length_of = days_from_civil-day (pos y) m last 1 some (omega arith) in
    let here = days_from_civil-day (pos y) m (day_of day) 1 (omega arith) (omega arith) in
    let gap = itself (day -ℤ days_from_civil (pos y) m 1) (omega (arith, ints, month.begun)) in (
      year.within,
      ((omega (arith, ints), omega (arith, ints, year.within)), (month.least, omega (arith, month.within)), (omega arith, omega (arith, ints, gap, end, length_of))),
      omega (arith, ints, gap, here),
    )
