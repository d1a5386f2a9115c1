-- The rows of a table, from its cells.
use Rattle.std.specs.Prelude.{◌≡◌, ◌≢◌, ℕ, zero, suc, ◌+◌, ◌*◌, ◌<◌, List, [], ◌∷◌, length, take, drop, map, Option, Some, slice_index_or}
use Rattle.adfs_base.specs.declared.value.Value.{Value}
use Rattle.adfs_base.specs.declared.value.Kind.{Kind}
use Rattle.element_store.specs.declared.near.Slot.{Slot}
use Rattle.element_store.specs.Columns.{Cell, Column, named, slot_of, value_of}
use Rattle.element_store.specs.Slots.{AreNear}
use Rattle.element_store.specs.Words.{value_from, word_from}

-- what cells say under columns
abbrev pub values_of : List Column → List (Option ℕ) → List Value
values_of [] cells = []
values_of (c ∷ cs) [] = []
values_of (c ∷ cs) (cell ∷ cells) = value_from c.1 cell ∷ values_of cs cells

-- the first rows of cells that lie row after row
unfoldable pub rows_of : List Column → ℕ → List (Option ℕ) → List (List Value)
rows_of columns zero cells = []
rows_of columns (suc n) cells = values_of columns (take (length columns) cells) ∷ rows_of columns n (drop (length columns) cells)

-- Each cell is the word of what it says.
abbrev pub AreWords : List Column → List (Option ℕ) → Type 0
AreWords [] cells = Unit {0}
AreWords (c ∷ cs) [] = Unit {0}
AreWords (c ∷ cs) (cell ∷ cells) = (word_from c.1 (value_from c.1 cell) ≡ cell) × AreWords cs cells

-- So is each of the first rows.
unfoldable pub RowsAreWords : List Column → ℕ → List (Option ℕ) → Type 0
RowsAreWords columns zero cells = Unit {0}
RowsAreWords columns (suc n) cells = AreWords columns (take (length columns) cells) × RowsAreWords columns n (drop (length columns) cells)

-- The cells have one more row at their end, which says these values.
pub record AddsRow (columns : List Column) (values : List Value) (old new : List (Option ℕ)) : Type 0 where
  pub kept : take (length old) new ≡ old
  pub width : length new ≡ length old + length columns
  pub row : values_of columns (drop (length old) new) ≡ values
  pub words : AreWords columns (drop (length old) new)

-- a table: the number of its first element, the label of all of them, its columns, and its rows
pub record Rows : Type 0 where
  pub first : ℕ
  pub label : ℕ
  pub columns : List Column
  pub rows : List (List Value)

-- what the elements of a table have besides their keys
abbrev pub labelled : Rows → List (ℕ × List (ℕ × Value))
labelled table = map (λ row. (table.label, named table.columns row)) table.rows

-- what an element of a table has besides its key
abbrev pub row_at : Rows → ℕ → ℕ × List (ℕ × Cell)
row_at table row = (table.label, named table.columns (slice_index_or table.rows row []))

-- Words of a row, one for each column: each that isn't the one of missing words is that of the value under its column's property.
pub record AreWordsOf (table : Rows) (row : ℕ) (words : List ℕ) : Type 0 where
  pub a_word_each : length words ≡ length table.columns
  pub words_are : (property place : ℕ) (kind : Kind) → slot_of table.columns property ≡ Some (place, kind) → slice_index_or words place 0 ≢ 18446744071562067968
      → word_from kind (value_of (row_at table row).1 property) ≡ Some (slice_index_or words place 0)

-- A row is there, and its cells begin at this place.
pub record IsRow (table : Rows) (row start : ℕ) : Type 0 where
  pub there : row < length table.rows
  pub begins : start ≡ row * length table.columns

-- What a table keeps: a cell for each column of each row, the word of what it says, and its columns where they are sought.
pub record IsTable (columns : List Column) (slots : List Slot) (rows : ℕ) (cells : List (Option ℕ)) : Type 0 where
  pub a_cell_each : length cells ≡ rows * length columns
  pub words : RowsAreWords columns rows cells
  pub near : AreNear slots columns
