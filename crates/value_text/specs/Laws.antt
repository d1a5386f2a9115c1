-- What holds of all values and all texts.
use Rattle.std.specs.Prelude.{◌≡◌, ℕ, ℤ, true, List, Some, Ok}
use Rattle.std.specs.Cmp.{IsTotalOrder}
use Rattle.adfs_base.specs.declared.value.Value.{Value}
use Rattle.value_text.specs.Dates.{IsDay, date_cell, date_text}
use Rattle.value_text.specs.Numbers.{int_cell, is_i64}
use Rattle.value_text.specs.Order.{value_order}
use Rattle.value_text.specs.Shown.{shown, shown_int}
use Rattle.value_text.specs.Texts.{Kept}
use Rattle.value_text.specs.Valid.{IsValid}

-- what a whole number shows reads as that number
abbrev pub IntsReadBack : Type 0
IntsReadBack = (n : ℤ) → is_i64 n ≡ true → int_cell (shown_int n) ≡ Ok n

-- the text of a day reads as that day
abbrev pub DatesReadBack : Type 0
DatesReadBack = (day : ℤ) → IsDay day → date_cell (date_text day) ≡ Some day

-- any values can be sorted
abbrev pub ValuesAreInOrder : Type 0
ValuesAreInOrder = (texts : List (List ℕ)) → IsTotalOrder (value_order texts)

-- a value goes on to be valid, and to show the same, as texts are added
pub record Stays (old new : List (List ℕ)) (value : Value) : Type 0 where
  pub valid : IsValid new value
  pub shows : shown new value ≡ shown old value

abbrev pub ValuesStay : Type 0
ValuesStay = (old new : List (List ℕ)) (value : Value) → Kept old new → IsValid old value → Stays old new value
