-- Whole numbers as tables write them.
use Rattle.std.specs.Prelude.{ℕ, ◌^◌, ◌&&◌, not, Bool, nat_lt, if◌then◌else◌, ℤ, pos, negsuc, List, length, Result, Ok, Err}
use Rattle.std.specs.Char.{is_ascii_digit}
use Rattle.std.specs.List.{list_all}
use Rattle.std.specs.Str.Parse.{signed_digits_value, without_leading_sign}
use Rattle.value_text.specs.declared.cells.CellFault.{CellFault}
use Rattle.value_text.specs.declared.cells.CellFault.TheVariants as fault

-- one decimal digit or more
abbrev pub is_numeral : List ℕ → Bool
is_numeral digits = nat_lt 0 (length digits) && list_all is_ascii_digit digits

-- a number that i64 has
abbrev pub is_i64 : ℤ → Bool
is_i64 (pos n) = nat_lt n (2 ^ 63)
is_i64 (negsuc n) = nat_lt n (2 ^ 63)

-- a sign or none, and digits
abbrev pub int_cell : List ℕ → Result ℤ CellFault
int_cell cell =
    if not (is_numeral (without_leading_sign cell)) then Err fault.BadInt
    else if is_i64 (signed_digits_value 10 cell) then Ok (signed_digits_value 10 cell)
    else Err fault.WideInt
