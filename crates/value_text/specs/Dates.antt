-- Civil dates from 0000-01-01 to 9999-12-31, their day numbers and their texts.
use Rattle.std.specs.Prelude.{ℕ, zero, suc, ◌+◌, ◌-◌, ◌*◌, ◌==◌, ◌&&◌, Bool, nat_le, if◌then◌else◌, ℤ, pos, ◌-ℤ◌, int_lt, unsigned_abs, List, ◌∷◌, ◌++◌, length, slice_index, Option, Some, None}
use Rattle.std.specs.Char.{is_ascii_digit}
use Rattle.jiff_core.specs.Calendar.{IsBetween, days_from_civil, days_in_month}
use Rattle.jiff_fmt.specs.Text.{pad2, pad4}

-- the value of two and of four digits
abbrev pub two : ℕ → ℕ → ℕ
two a b = (a - 48) * 10 + (b - 48)

abbrev pub four : ℕ → ℕ → ℕ → ℕ → ℕ
four a b c d = two a b * 100 + two c d

-- the calendar has this day
abbrev pub is_civil : ℕ → ℕ → ℕ → Bool
is_civil y m d = nat_le 1 m && nat_le m 12 && nat_le 1 d && nat_le d (days_in_month (pos y) m)

-- a decimal digit stands at the place
abbrev pub digit_at : List ℕ → ℕ → Bool
digit_at text i = is_ascii_digit (slice_index text i)

-- the text has ten bytes, and a year and a dash at its front
abbrev pub has_year : List ℕ → Bool
has_year text = (length text == 10) && digit_at text 0 && digit_at text 1 && digit_at text 2 && digit_at text 3 && (slice_index text 4 == 45)

-- and then a month and a dash
abbrev pub has_month : List ℕ → Bool
has_month text = has_year text && digit_at text 5 && digit_at text 6 && (slice_index text 7 == 45)

-- the text has the form DDDD-DD-DD
abbrev pub has_date_form : List ℕ → Bool
has_date_form text = has_month text && digit_at text 8 && digit_at text 9

abbrev pub year_in : List ℕ → ℕ
year_in text = four (slice_index text 0) (slice_index text 1) (slice_index text 2) (slice_index text 3)

abbrev pub month_in : List ℕ → ℕ
month_in text = two (slice_index text 5) (slice_index text 6)

abbrev pub day_in : List ℕ → ℕ
day_in text = two (slice_index text 8) (slice_index text 9)

-- the day number of a year, month and day that the calendar has
abbrev pub civil_day : ℕ → ℕ → ℕ → Option ℤ
civil_day y m d = if is_civil y m d then Some (days_from_civil (pos y) m d) else None

-- the day number of a text of that form that names a civil date
abbrev pub date_cell : List ℕ → Option ℤ
date_cell text = if has_date_form text then civil_day (year_in text) (month_in text) (day_in text) else None

-- the last year from 0 to n whose first day isn't after the day
unfoldable pub year_up_to : ℕ → ℤ → ℕ
year_up_to zero day = 0
year_up_to (suc n) day = if int_lt day (days_from_civil (pos (suc n)) 1 1) then year_up_to n day else suc n

-- the last month from 1 to n + 1 of the year whose first day isn't after the day
unfoldable pub month_up_to : ℕ → ℤ → ℤ → ℕ
month_up_to zero year day = 1
month_up_to (suc n) year day = if int_lt day (days_from_civil year (suc n + 1) 1) then month_up_to n year day else suc n + 1

abbrev pub year_of : ℤ → ℕ
year_of day = year_up_to 9999 day

abbrev pub month_of : ℤ → ℕ
month_of day = month_up_to 11 (pos (year_of day)) day

abbrev pub day_of : ℤ → ℕ
day_of day = unsigned_abs (day -ℤ days_from_civil (pos (year_of day)) (month_of day) 1) + 1

-- `2024-02-29`
abbrev pub date_text : ℤ → List ℕ
date_text day = pad4 (year_of day) ++ 45 ∷ pad2 (month_of day) ++ 45 ∷ pad2 (day_of day)

-- a day of the years 0000 to 9999
abbrev pub IsDay : ℤ → Type 0
IsDay day = IsBetween (days_from_civil (pos 0) 1 1) (days_from_civil (pos 9999) 12 31) day
