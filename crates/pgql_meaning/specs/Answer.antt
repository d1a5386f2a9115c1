-- What a query answers: every assignment that fits, in order, as a row.
use Rattle.std.specs.Prelude.{ℕ, List, map, filter}
use Rattle.adfs_base.specs.declared.value.Value.{Value}
use Rattle.answer_rows.specs.Arranged.{Arrangement, Shown, rows_of}
use Rattle.graph_tables.specs.Graph.{PropertyGraph}
use Rattle.typed_query.specs.Val.{val}
use Rattle.typed_query.specs.declared.query.Query.{Query}
use Rattle.pgql_meaning.specs.Assignments.{assignments, ranges_of}
use Rattle.pgql_meaning.specs.Captured.{captured}
use Rattle.pgql_meaning.specs.Fits.{fits}

-- every assignment that fits, in ascending lexicographic order
abbrev pub all_matches : List (List ℕ) → PropertyGraph → Query → List (List ℕ)
all_matches texts graph query = filter (fits texts graph query) (assignments (ranges_of graph query.variables))

-- the columns, from captured values
abbrev pub row_by : List (List ℕ) → Query → List Value → List Value
row_by texts query captured = map (λ item. val texts captured item.0) query.select

-- the order keys, from captured values
abbrev pub order_by : List (List ℕ) → Query → List Value → List Value
order_by texts query captured = map (λ key. val texts captured key.0) query.keys

-- the columns of an assignment
abbrev pub row_of : List (List ℕ) → PropertyGraph → Query → List ℕ → List Value
row_of texts graph query assignment = row_by texts query (captured graph query assignment)

-- the values by which an assignment is ordered
abbrev pub order_of : List (List ℕ) → PropertyGraph → Query → List ℕ → List Value
order_of texts graph query assignment = order_by texts query (captured graph query assignment)

-- an assignment by what it shows, from captured values
abbrev pub shown_by : List (List ℕ) → Query → List Value → List ℕ → Shown
shown_by texts query captured assignment = record { keys = order_by texts query captured; row = row_by texts query captured; numbers = assignment }

abbrev pub shown : List (List ℕ) → PropertyGraph → Query → List ℕ → Shown
shown texts graph query assignment = shown_by texts query (captured graph query assignment) assignment

-- how the rows of a query stand
abbrev pub arrangement_of : Query → Arrangement
arrangement_of query = record { downs = map (λ key. key.1) query.keys; distinct = query.distinct; limit = query.limit }

-- the rows, in order
abbrev pub answer_of : List (List ℕ) → PropertyGraph → Query → List (List Value)
answer_of texts graph query = rows_of texts (arrangement_of query) (map (shown texts graph query) (all_matches texts graph query))
