-- The rules by which an edge comes first, as the planner tries them.
use Rattle.std.specs.Prelude.{◌≡◌, ℕ, ◌<◌, Bool, List, length, slice_index_or, remove, MatchOption, Option, Some, None}
use Rattle.typed_expr.specs.declared.query.EdgeJoin.{EdgeJoin}
use Rattle.stage_plan.specs.Front.{Front, closes, pick, reaches, touches}
use Rattle.stage_plan.specs.declared.planner.Rule.{Rule}
use Rattle.stage_plan.specs.declared.planner.Rule.TheVariants.{Closes, Reaches, Touches}

abbrev pub passes : Rule → Front → EdgeJoin → Bool
passes Closes front edge = closes front edge
passes Reaches front edge = reaches front edge
passes Touches front edge = touches front edge

-- The place is that of the first edge that passes.
abbrev pub IsFound : (EdgeJoin → Bool) → List EdgeJoin → Option ℕ → Type 0
IsFound test left found =
    MatchOption found (pick test left ≡ None)
    (λ at. (at < length left) × ((d : EdgeJoin) → pick test left ≡ Some (slice_index_or left at d, remove left at)))
