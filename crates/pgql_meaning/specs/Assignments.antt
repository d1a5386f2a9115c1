-- The lists of numbers that a query's variables may stand for.
use Rattle.std.specs.Prelude.{ℕ, Bool, List, [], ◌∷◌, ◌++◌, filter, length, map, if◌then◌else◌}
use Rattle.std.specs.List.{flat_map, range_with_len}
use Rattle.graph_tables.specs.Graph.{PropertyGraph}
use Rattle.typed_query.specs.declared.query.Variable.{Variable}

-- every list of numbers, one below each of these bounds, in ascending lexicographic order
abbrev pub assignments : List ℕ → List (List ℕ)
assignments [] = [] ∷ []
assignments (n ∷ ns) = flat_map (λ i. map (λ a. i ∷ a) (assignments ns)) (range_with_len 0 n)

-- how many elements a variable may stand for
abbrev pub range_of : PropertyGraph → Variable → ℕ
range_of graph variable = if variable.edge then length graph.edges else length graph.vertices

abbrev pub ranges_of : PropertyGraph → List Variable → List ℕ
ranges_of graph variables = map (range_of graph) variables

-- the assignments that begin so and pass, in their order
abbrev pub extensions : (List ℕ → Bool) → List ℕ → List ℕ → List (List ℕ)
extensions passes front ranges = filter passes (map (λ rest. front ++ rest) (assignments ranges))
