-- The rows of matches, in the order of an answer.
use Rattle.std.specs.Prelude.{ℕ, Bool, not, List, [], ◌∷◌, filter, map, take, Option, Some, None, if◌then◌else◌}
use Rattle.std.specs.Ordering.{is_eq, ordering_then}
use Rattle.std.specs.declared.cmp.Ordering.{Ordering}
use Rattle.adfs_base.specs.declared.value.Value.{Value}
use Rattle.sorted_lists.specs.Sorted.{before_by, in_order}
use Rattle.answer_rows.specs.Orders.{keys_order, numbers_order, row_order}

-- a value, under a name that the members of a model may write
abbrev pub Cell : Type 0
Cell = Value

-- a match by what it shows: the values of the order keys, those of the columns, and the numbers of its elements
pub record Shown : Type 0 where
  pub keys : List Cell
  pub row : List Cell
  pub numbers : List ℕ

-- how an answer's rows stand: which keys go down, whether each row stands once, and how many rows there are at most
pub record Arrangement : Type 0 where
  pub downs : List Bool
  pub distinct : Bool
  pub limit : Option ℕ

-- where the keys tie: with DISTINCT by the row, and else by the elements' numbers
abbrev pub ties_order : List (List ℕ) → Bool → Shown → Shown → Ordering
ties_order texts distinct a b = if distinct then row_order texts a.row b.row else numbers_order a.numbers b.numbers

abbrev pub match_order : List (List ℕ) → Arrangement → Shown → Shown → Ordering
match_order texts arrangement a b = ordering_then (keys_order texts arrangement.downs a.keys b.keys) (ties_order texts arrangement.distinct a b)

-- by their rows alone
abbrev pub rows_order : List (List ℕ) → Shown → Shown → Ordering
rows_order texts a b = row_order texts a.row b.row

abbrev pub has_row : List (List ℕ) → Shown → Shown → Bool
has_row texts a b = is_eq (rows_order texts a b)

-- of those that are the same the first
abbrev pub first_of_each : {X : Type 0} → (X → X → Bool) → List X → List X
first_of_each same [] = []
first_of_each same (x ∷ xs) = x ∷ filter (λ y. not (same x y)) (first_of_each same xs)

-- with DISTINCT the first match of each row
abbrev pub kept : List (List ℕ) → Bool → List Shown → List Shown
kept texts distinct matches = if distinct then first_of_each (has_row texts) matches else matches

-- the first rows, as many as the limit lets
abbrev pub limited : {X : Type 0} → Option ℕ → List X → List X
limited None rows = rows
limited (Some n) rows = take n rows

-- the rows of these matches, in order
abbrev pub rows_of : List (List ℕ) → Arrangement → List Shown → List (List Value)
rows_of texts arrangement matches =
    limited arrangement.limit (map (λ m. m.row) (in_order (before_by (match_order texts arrangement)) (kept texts arrangement.distinct matches)))
