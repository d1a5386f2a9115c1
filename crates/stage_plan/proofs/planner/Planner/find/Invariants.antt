use Rattle.std.proofs.Common.{◌≡◌, ℕ, ◌<◌, get_or, false}
use Rattle.typed_expr.specs.declared.query.EdgeJoin.{EdgeJoin}
use Rattle.stage_plan.specs.Rules.{passes}
use Rattle.stage_plan.proofs.planner.Planner.find.Given as goal

abbrev pub invariant-loop-at : goal.invariant-loop-at
invariant-loop-at l = (k : ℕ) → k < l.at → (d : EdgeJoin) → passes l.rule l.self (get_or l.self.left k d) ≡ false
