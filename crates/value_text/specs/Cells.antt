-- What a cell of a kind says.
use Rattle.std.specs.Prelude.{◌≡◌, ℕ, Bool, true, false, if◌then◌else◌, ℤ, List, [], ◌∷◌, map, codes, Option, Some, None, Result, Ok, Err}
use Rattle.std.specs.Char.{to_ascii_lowercase}
use Rattle.std.specs.Str.{bytes_eq, is_utf8}
use Rattle.adfs_base.specs.declared.value.Kind.{Kind}
use Rattle.adfs_base.specs.declared.value.Kind.TheVariants as kind
use Rattle.adfs_base.specs.declared.value.Value.{Value}
use Rattle.adfs_base.specs.declared.value.Value.TheVariants as value
use Rattle.value_text.specs.declared.cells.CellFault.{CellFault}
use Rattle.value_text.specs.declared.cells.CellFault.TheVariants as fault
use Rattle.value_text.specs.Dates.{date_cell}
use Rattle.value_text.specs.Numbers.{int_cell}
use Rattle.value_text.specs.Texts.{number_of, with_text}

-- a value and the texts as they then are, or why there is none
abbrev pub Reading : Type 0
Reading = Result (Value × List (List ℕ)) CellFault

-- `true` or `false`, in any case of letters
abbrev pub bool_cell : List ℕ → Result Bool CellFault
bool_cell cell =
    if bytes_eq (map to_ascii_lowercase cell) (codes "true") then Ok true
    else if bytes_eq (map to_ascii_lowercase cell) (codes "false") then Ok false
    else Err fault.BadBool

abbrev pub as_int : List (List ℕ) → Result ℤ CellFault → Reading
as_int texts (Ok n) = Ok (value.Int n, texts)
as_int texts (Err f) = Err f

abbrev pub as_bool : List (List ℕ) → Result Bool CellFault → Reading
as_bool texts (Ok b) = Ok (value.Bool b, texts)
as_bool texts (Err f) = Err f

abbrev pub as_date : List (List ℕ) → Option ℤ → Reading
as_date texts (Some day) = Ok (value.Date day, texts)
as_date texts None = Err fault.BadDate

-- UTF-8, which becomes one of the texts
abbrev pub as_text : List (List ℕ) → List ℕ → Reading
as_text texts cell =
    if is_utf8 cell then Ok (value.Text (number_of texts cell), with_text texts cell) else Err fault.BadText

-- what a cell says that isn't empty
abbrev pub filled_cell : Kind → List ℕ → List (List ℕ) → Reading
filled_cell kind.Int cell texts = as_int texts (int_cell cell)
filled_cell kind.Text cell texts = as_text texts cell
filled_cell kind.Bool cell texts = as_bool texts (bool_cell cell)
filled_cell kind.Date cell texts = as_date texts (date_cell cell)

-- what a cell says; the empty one says null, whatever the kind
abbrev pub cell_value : Kind → List ℕ → List (List ℕ) → Reading
cell_value k [] texts = Ok (value.Null, texts)
cell_value k (b ∷ rest) texts = filled_cell k (b ∷ rest) texts

-- The fault is running out of memory, or that of the reading.
abbrev pub Fails : CellFault → Reading → Type 0
Fails fault.NoMemory reading = Unit {0}
Fails fault.BadInt reading = reading ≡ Err fault.BadInt
Fails fault.WideInt reading = reading ≡ Err fault.WideInt
Fails fault.BadBool reading = reading ≡ Err fault.BadBool
Fails fault.BadDate reading = reading ≡ Err fault.BadDate
Fails fault.BadText reading = reading ≡ Err fault.BadText
Fails fault.WrongCount reading = ⊥

-- The result, and the texts that it left, are those of the reading, unless memory ran out.
abbrev pub Gives : Result Value CellFault → List (List ℕ) → Reading → Type 0
Gives (Ok v) left reading = reading ≡ Ok (v, left)
Gives (Err f) left reading = Fails f reading
