-- The elements of one kind, over all their tables.
use Rattle.std.specs.Prelude.{◌≡◌, ℕ, ◌+◌, ◌<◌, ◌≤◌, ◌-◌, ℤ, List, [], ◌∷◌, length, map, Option, position, sum_by, slice_get}
use Rattle.std.specs.List.{flat_map}
use Rattle.std.specs.Ordering.{int_eq}
use Rattle.element_store.specs.Columns.{Cell, Column}
use Rattle.element_store.specs.Tables.{Rows, labelled}

-- an element: its key, its label's number, and the values of its table's columns, each with its property's number
pub record Element : Type 0 where
  pub key : ℤ
  pub label : ℕ
  pub values : List (ℕ × Cell)

abbrev pub keys_in : List Element → List ℤ
keys_in elements = map (λ e. e.key) elements

-- the number of the element with this key
abbrev pub number_of : List Element → ℤ → Option ℕ
number_of elements key = position (int_eq key) (keys_in elements)

-- how many cells the elements have, those that say null among them
abbrev pub cells_in : List Element → ℕ
cells_in elements = sum_by (λ e. length e.values) elements

-- an element for each key and what stands beside it
abbrev pub joined : List ℤ → List (ℕ × List (ℕ × Cell)) → List Element
joined [] rows = []
joined (k ∷ ks) [] = []
joined (k ∷ ks) (r ∷ rs) = record { key = k; label = r.0; values = r.1 } ∷ joined ks rs

-- the elements, how many tables there are, and the label and the columns of the last one
pub record Filled : Type 0 where
  pub elements : List Element
  pub tables : ℕ
  pub label : ℕ
  pub columns : List Column

abbrev pub last_label : List Rows → ℕ
last_label [] = 0
last_label (t ∷ []) = t.label
last_label (t ∷ u ∷ rest) = last_label (u ∷ rest)

abbrev pub last_columns : List Rows → List Column
last_columns [] = []
last_columns (t ∷ []) = t.columns
last_columns (t ∷ u ∷ rest) = last_columns (u ∷ rest)

abbrev pub filled : List ℤ → List Rows → Filled
filled keys tables = record { elements = joined keys (flat_map labelled tables); tables = length tables; label = last_label tables; columns = last_columns tables }

-- Each table has the number of its first element, from n on.
abbrev pub AreStacked : ℕ → List Rows → Type 0
AreStacked n [] = Unit {0}
AreStacked n (t ∷ ts) = (t.first ≡ n) × AreStacked (n + length t.rows) ts

-- A row for each key, and the tables in the order of their rows.
pub record HaveRows (keys : List ℤ) (tables : List Rows) : Type 0 where
  pub a_row_each : length (flat_map labelled tables) ≡ length keys
  pub stacked : AreStacked 0 tables

pub record AreFilled (keys : List ℤ) (tables : List Rows) (cells : ℕ) : Type 0 where
  pub a_row_each : length (flat_map labelled tables) ≡ length keys
  pub stacked : AreStacked 0 tables
  pub counted : cells_in (joined keys (flat_map labelled tables)) ≡ cells

-- The element is one of this table's.
abbrev pub HasElement : List Rows → ℕ → Rows → Type 0
HasElement tables number t =
    (t.first ≤ number) × (number - t.first < length t.rows) × (slice_get (flat_map labelled tables) number ≡ slice_get (labelled t) (number - t.first))
