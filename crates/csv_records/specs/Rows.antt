-- The cells of a record, each where its bytes are.
use Rattle.std.specs.Prelude.{ℕ, ◌≤◌, ◌-◌, List, map, take, drop, ⊤}
use Rattle.std.specs.List.{AllByRecursion}
use Rattle.csv_records.specs.declared.row.Cell.{Cell}
use Rattle.csv_records.specs.declared.row.Cell.TheVariants as cell

-- the bytes of a cell, where these were put together
abbrev pub bytes_of : List ℕ → Cell → List ℕ
bytes_of made (cell.Here bytes) = bytes.now
bytes_of made (cell.Made first end) = take (end - first) (drop first made)

-- the cells of a row
abbrev pub cells_of : List ℕ → List Cell → List (List ℕ)
cells_of made cells = map (bytes_of made) cells

-- the bytes of the cell are the table's, or are among so many that were put together
abbrev pub IsThere : ℕ → Cell → Type 0
IsThere count (cell.Here bytes) = ⊤
IsThere count (cell.Made first end) = (first ≤ end) × (end ≤ count)

-- the same of all
abbrev pub AreThere : ℕ → List Cell → Type 0
AreThere count cells = AllByRecursion (IsThere count) cells
