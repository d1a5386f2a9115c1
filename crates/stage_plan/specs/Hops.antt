-- The hops of a pattern.
use Rattle.std.specs.Prelude.{ℕ, zero, suc, ◌+◌, ◌*◌, true, false, List, [], ◌∷◌, length, replicate, slice_set, Option, Some, None}
use Rattle.std.specs.Option.{option_map, option_or}
use Rattle.typed_expr.specs.declared.query.EdgeJoin.{EdgeJoin}
use Rattle.typed_expr.specs.declared.query.Query.{Query}
use Rattle.stage_plan.specs.Front.{Front, after_edge, bound_end, closes, goes_out, other_end, pick, reaches, touches, turned, with_bound}
use Rattle.stage_plan.specs.declared.hop.Hop.{Hop}
use Rattle.stage_plan.specs.declared.hop.Hop.TheVariants as hop

-- along an edge to a vertex that is bound
abbrev pub close : Front → EdgeJoin × List EdgeJoin → Hop × Front
close front picked = (hop.Edge (goes_out picked.0 front.current) picked.0.edge (other_end picked.0 front.current), after_edge front picked)

-- along an edge to a new vertex
abbrev pub reach : Front → EdgeJoin × List EdgeJoin → Hop × Front
reach front picked = (
  hop.Neighbour (goes_out picked.0 front.current) picked.0.edge (other_end picked.0 front.current),
  with_bound (after_edge front picked) (other_end picked.0 front.current),
)

-- back to the bound end of an edge
abbrev pub turn : Front → EdgeJoin × List EdgeJoin → Hop × Front
turn front picked = (hop.Inspect (bound_end front picked.0), turned front (bound_end front picked.0))

-- The next hop and where it leads. The first edge that closes goes before all others, and the first that reaches before
-- those that touch; where none does, none is left.
abbrev pub next_hop : Front → Option (Hop × Front)
next_hop front =
    option_or (option_map (close front) (pick (closes front) front.left))
    (option_or (option_map (reach front) (pick (reaches front) front.left))
    (option_map (turn front) (pick (touches front) front.left)))

abbrev pub and_on : Option (Hop × Front) → (Front → List Hop) → List Hop
and_on None hops = hop.Output ∷ []
and_on (Some next) hops = next.0 ∷ hops next.1

-- the hops from here on, of which there are at most so many before the output
abbrev pub hops_from : ℕ → Front → List Hop
hops_from zero front = hop.Output ∷ []
hops_from (suc count) front = and_on (next_hop front) (hops_from count)

-- the first of so many variables is bound, and one stands there
abbrev pub first_front : ℕ → List EdgeJoin → Front
first_front variables edges = record { bound = slice_set (replicate variables false) 0 true; current = 0; left = edges }

-- each edge takes a hop, and at most one more to turn to it
abbrev pub most_hops : List EdgeJoin → ℕ
most_hops edges = 2 * length edges + 1

abbrev pub hops_through : ℕ → List EdgeJoin → List Hop
hops_through variables edges = hop.Root 0 ∷ hops_from (most_hops edges) (first_front variables edges)

-- the hops of a query
abbrev pub hops_of : Query → List Hop
hops_of query = hops_through (length query.variables) query.edges
