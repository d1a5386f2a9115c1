-- What the first numbers of an assignment leave open.
use Rattle.std.specs.Prelude.{ℕ, ◌-◌, ◌==◌, ◌&&◌, ◌||◌, Bool, true, false, List, length, Option, slice_get}
use Rattle.std.specs.List.{list_all}
use Rattle.std.specs.Option.{option_map_or}
use Rattle.graph_tables.specs.Graph.{Edge, PropertyGraph}
use Rattle.typed_query.specs.declared.query.EdgeJoin.{EdgeJoin}
use Rattle.typed_query.specs.declared.query.Query.{Query}
use Rattle.pgql_meaning.specs.Captured.{element_of, number_of}
use Rattle.pgql_meaning.specs.Fits.{has_labels}

-- a variable without a number yet may have any
abbrev pub may_be : Option ℕ → ℕ → Bool
may_be assigned number = option_map_or (λ n. n == number) assigned true

abbrev pub may_run : Option ℕ → Option ℕ → Edge → Bool
may_run source target edge = may_be source edge.source && may_be target edge.target

-- whether the edge of a join, where it has a number, may go between its ends
abbrev pub may_join : PropertyGraph → List ℕ → EdgeJoin → Bool
may_join graph front join =
    option_map_or (λ e. option_map_or (may_run (number_of front join.source) (number_of front join.target)) (slice_get graph.edges e) false) (number_of front join.edge) true

abbrev pub may_join_all : PropertyGraph → Query → List ℕ → Bool
may_join_all graph query front = list_all (may_join graph front) query.edges

-- whether the element of a variable, where it has a number, has a label of each of its lists
abbrev pub may_label_at : List (List ℕ) → PropertyGraph → Query → List ℕ → ℕ → Bool
may_label_at texts graph query front variable =
    option_map_or (λ x. option_map_or (has_labels texts x.labels) (element_of graph query front variable) false) (slice_get query.variables variable) true

-- and whether that of the last number has
abbrev pub may_label : List (List ℕ) → PropertyGraph → Query → List ℕ → Bool
may_label texts graph query front = (length front == 0) || may_label_at texts graph query front (length front - 1)

-- whether some assignment that begins with these numbers may fit
abbrev pub may_fit : List (List ℕ) → PropertyGraph → Query → List ℕ → Bool
may_fit texts graph query front = may_label texts graph query front && may_join_all graph query front
