-- The assignments that a plan's moves lead to along a graph.
use Rattle.std.specs.Prelude.{ℕ, ◌==◌, Bool, List, [], ◌∷◌, length, filter, flat_map, replicate, slice_index, slice_set}
use Rattle.std.specs.Prelude.{if◌then◌else◌}
use Rattle.std.specs.List.{range_with_len}
use Rattle.graph_tables.specs.Graph.{Edge, PropertyGraph}
use Rattle.partition.specs.Parts.{near_end, numbered, other_end}
use Rattle.pgql_meaning.specs.Fits.{meets}
use Rattle.typed_expr.specs.declared.query.Query.{Query}
use Rattle.stage_plan.specs.Moves.{Ask, Close, Go, Move, Start}

-- the edges at a vertex with their numbers, those that go out or those that come in
abbrev pub edges_at : PropertyGraph → Bool → ℕ → List (ℕ × Edge)
edges_at graph out vertex = filter (λ e. near_end out e.1 == vertex) (numbered 0 graph.edges)

-- the assignments that moves lead to from the numbers that are bound so far
abbrev pub rows_of : List (List ℕ) → PropertyGraph → Query → List Move → List ℕ → List (List ℕ)
rows_of texts graph query [] numbers = numbers ∷ []
rows_of texts graph query (Start variable ∷ moves) numbers =
    flat_map (λ n. rows_of texts graph query moves (slice_set numbers variable n)) (range_with_len 0 (length graph.vertices))
rows_of texts graph query (Go out from edge to ∷ moves) numbers =
    flat_map (λ e. rows_of texts graph query moves (slice_set (slice_set numbers edge e.0) to (other_end out e.1)))
    (edges_at graph out (slice_index numbers from))
rows_of texts graph query (Close out from edge to ∷ moves) numbers =
    flat_map (λ e. rows_of texts graph query moves (slice_set numbers edge e.0))
    (filter (λ e. other_end out e.1 == slice_index numbers to) (edges_at graph out (slice_index numbers from)))
rows_of texts graph query (Ask test ∷ moves) numbers =
    if meets texts graph query numbers test then rows_of texts graph query moves numbers else []

-- nothing is bound
abbrev pub unbound : Query → List ℕ
unbound query = replicate (length query.variables) 0
