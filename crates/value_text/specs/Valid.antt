-- Values that mean something under texts.
use Rattle.std.specs.Prelude.{◌<◌, ℕ, List, length}
use Rattle.adfs_base.specs.declared.value.Value.{Value}
use Rattle.adfs_base.specs.declared.value.Value.TheVariants as value
use Rattle.value_text.specs.Dates.{IsDay}

-- A text's number is that of one of the texts, and a date is of the years 0000 to 9999.
abbrev pub IsValid : List (List ℕ) → Value → Type 0
IsValid texts value.Null = Unit {0}
IsValid texts (value.Int n) = Unit {0}
IsValid texts (value.Text number) = number < length texts
IsValid texts (value.Bool b) = Unit {0}
IsValid texts (value.Date day) = IsDay day
