-- What holds of the plan of each query.
use Rattle.std.specs.Prelude.{◌≡◌, ℕ, ◌<◌, Bool, false, List, [], ◌∷◌, length, Option, Some, None}
use Rattle.typed_expr.specs.WellFormed.{IsWellFormed}
use Rattle.typed_expr.specs.declared.query.Query.{Query}
use Rattle.stage_plan.specs.Hops.{hops_of}
use Rattle.stage_plan.specs.Moves.{AskAll, IsBound, is_edge, moves_of}
use Rattle.stage_plan.specs.Walk.{Walk, arrived, rooted, walk_after}
use Rattle.stage_plan.specs.declared.hop.Hop.{Hop}
use Rattle.stage_plan.specs.declared.hop.Hop.TheVariants as hop

-- After the root one goes on, and the output comes last.
abbrev pub EndsWithOutput : List Hop → Type 0
EndsWithOutput [] = ⊥
EndsWithOutput (hop.Root variable ∷ hops) = ⊥
EndsWithOutput (hop.Neighbour out edge to ∷ hops) = EndsWithOutput hops
EndsWithOutput (hop.Edge out edge to ∷ hops) = EndsWithOutput hops
EndsWithOutput (hop.Inspect variable ∷ hops) = EndsWithOutput hops
EndsWithOutput (hop.Output ∷ []) = Unit {0}
EndsWithOutput (hop.Output ∷ taken ∷ hops) = ⊥

abbrev pub IsThere : ℕ → Option ℕ → Type 0
IsThere count None = Unit {0}
IsThere count (Some variable) = variable < count

abbrev pub IsVertexOf : Query → ℕ → Type 0
IsVertexOf query variable = (variable < length query.variables) × (is_edge query variable ≡ false)

-- The variables that a hop names are there; where it goes to a vertex that is bound, it is.
abbrev pub HopIsThere : Query → List Bool → Hop → Type 0
HopIsThere query bound (hop.Root variable) = IsVertexOf query variable
HopIsThere query bound (hop.Neighbour out edge to) = (edge < length query.variables) × IsVertexOf query to
HopIsThere query bound (hop.Edge out edge to) = (edge < length query.variables) × IsVertexOf query to
HopIsThere query bound (hop.Inspect variable) = IsVertexOf query variable × IsBound bound variable
HopIsThere query bound hop.Output = Unit {0}

-- The variables that a walk names are there.
abbrev pub AreNamed : Query → Walk → List Hop → Type 0
AreNamed query walk [] = Unit {0}
AreNamed query walk (taken ∷ hops) =
    (IsThere (length query.variables) walk.arriving × ((walk.current < length query.variables) × HopIsThere query (arrived query walk).known taken))
    × AreNamed query (walk_after query walk taken) hops

-- The plan of a query begins at its first vertex and ends with the output, it binds each variable once, and it asks each
-- test of the query once: a label where its variable is bound, and a part of the condition as soon as the captures that it
-- uses are known.
pub record IsWhole (query : Query) : Type 0 where
  pub path : List Hop
  pub begins : hops_of query ≡ hop.Root 0 ∷ path
  pub ends : EndsWithOutput path
  pub names : AreNamed query (rooted query 0) path
  pub asks : AskAll query (moves_of query (hops_of query))

abbrev pub PlansAreWhole : Type 0
PlansAreWhole = (query : Query) → IsWellFormed query → IsWhole query
