-- Which edge of a pattern comes next, and how one goes along it.
use Rattle.std.specs.Prelude.{ℕ, ◌==◌, ◌&&◌, ◌||◌, ◌<◌, Bool, true, false, List, [], ◌∷◌, length, slice_index_or, slice_set, Option, Some, None, if◌then◌else◌}
use Rattle.std.specs.List.{AllByRecursion}
use Rattle.typed_expr.specs.declared.query.EdgeJoin.{EdgeJoin}

-- which variables are bound, at which vertex one stands, and the edges that are left, in the order of the text
pub record Front : Type 0 where
  pub bound : List Bool
  pub current : ℕ
  pub left : List EdgeJoin

abbrev pub is_bound : Front → ℕ → Bool
is_bound front variable = slice_index_or front.bound variable false

-- the variable is an end of the edge
abbrev pub has_end : EdgeJoin → ℕ → Bool
has_end edge variable = (edge.source == variable) || (edge.target == variable)

-- one end is the current vertex, and both are bound
abbrev pub closes : Front → EdgeJoin → Bool
closes front edge = has_end edge front.current && (is_bound front edge.source && is_bound front edge.target)

-- one end is the current vertex
abbrev pub reaches : Front → EdgeJoin → Bool
reaches front edge = has_end edge front.current

-- one end is bound
abbrev pub touches : Front → EdgeJoin → Bool
touches front edge = is_bound front edge.source || is_bound front edge.target

-- one goes out along the edge from this end, and else in
abbrev pub goes_out : EdgeJoin → ℕ → Bool
goes_out edge from = edge.source == from

-- where one comes along the edge from this end
abbrev pub other_end : EdgeJoin → ℕ → ℕ
other_end edge from = if goes_out edge from then edge.target else edge.source

-- whether one goes out, along which edge, and where to
abbrev pub way_along : EdgeJoin → ℕ → Bool × ℕ × ℕ
way_along edge from = (goes_out edge from, edge.edge, other_end edge from)

-- the source if it is bound, and else the target
abbrev pub bound_end : Front → EdgeJoin → ℕ
bound_end front edge = if is_bound front edge.source then edge.source else edge.target

abbrev pub first_or : Bool → EdgeJoin → List EdgeJoin → Option (EdgeJoin × List EdgeJoin) → Option (EdgeJoin × List EdgeJoin)
first_or true edge edges later = Some (edge, edges)
first_or false edge edges None = None
first_or false edge edges (Some picked) = Some (picked.0, edge ∷ picked.1)

-- the first edge that passes, and the others
abbrev pub pick : (EdgeJoin → Bool) → List EdgeJoin → Option (EdgeJoin × List EdgeJoin)
pick passes [] = None
pick passes (edge ∷ edges) = first_or (passes edge) edge edges (pick passes edges)

-- the edge is bound, and one stands at its other end
abbrev pub after_edge : Front → EdgeJoin × List EdgeJoin → Front
after_edge front picked = record {
  bound = slice_set front.bound picked.0.edge true;
  current = other_end picked.0 front.current;
  left = picked.1;
}

-- and that end is bound too
abbrev pub with_bound : Front → ℕ → Front
with_bound front variable = record { bound = slice_set front.bound variable true; current = front.current; left = front.left }

abbrev pub turned : Front → ℕ → Front
turned front variable = record { bound = front.bound; current = variable; left = front.left }

-- There are such variables.
pub record AreThere (count : ℕ) (edge : EdgeJoin) : Type 0 where
  pub edge_there : edge.edge < count
  pub source_there : edge.source < count
  pub target_there : edge.target < count

-- The edges that are left name variables that there are.
abbrev pub IsFront : Front → Type 0
IsFront front = AllByRecursion (AreThere (length front.bound)) front.left
