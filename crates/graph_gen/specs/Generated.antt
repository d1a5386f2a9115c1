-- The tables of a seed: a manifest, vertices with their weights, and edges.
use Rattle.std.specs.Prelude.{ℕ, ◌+◌, ◌*◌, ◌%◌, List, [], ◌∷◌, ◌++◌, codes}
use Rattle.std.specs.Fmt.{decimal}
use Rattle.std.specs.List.{flat_map, range_with_len}
use Rattle.seeded_draws.specs.Draws.{nth_draw}

abbrev pub manifest_text : List ℕ
manifest_text = codes "adfs 1\nvertices node nodes.csv\nedges link links.csv\n"

-- the weight of the vertex at a place, from 0: the seed's first draws, one for each vertex
abbrev pub weight_at : ℕ → ℕ → ℕ
weight_at seed place = nth_draw seed place % 1000

-- one of the ends of the edges: their draws follow, two for each edge, the source first
abbrev pub end_at : ℕ → ℕ → ℕ → ℕ
end_at seed vertices place = nth_draw seed (vertices + place) % vertices + 1

-- a vertex's record: its key, from 1, and its weight
abbrev pub node_line : ℕ → ℕ → List ℕ
node_line seed place = decimal (place + 1) ++ 44 ∷ decimal (weight_at seed place) ++ 10 ∷ []

-- an edge's record: its key, from 1, its source and its target
abbrev pub link_line : ℕ → ℕ → ℕ → List ℕ
link_line seed vertices place =
    decimal (place + 1)
    ++ 44 ∷ decimal (end_at seed vertices (2 * place))
    ++ 44 ∷ decimal (end_at seed vertices (2 * place + 1)) ++ 10 ∷ []

abbrev pub nodes_text : ℕ → ℕ → List ℕ
nodes_text seed vertices = codes "id:int,w:int\n" ++ flat_map (node_line seed) (range_with_len 0 vertices)

abbrev pub links_text : ℕ → ℕ → ℕ → List ℕ
links_text seed vertices edges =
    codes "id:int,source:int,target:int\n" ++ flat_map (link_line seed vertices) (range_with_len 0 edges)
