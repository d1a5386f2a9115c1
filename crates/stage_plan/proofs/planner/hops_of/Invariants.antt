use Rattle.std.proofs.Common.{◌≡◌, ◌++◌, ◌-◌}
use Rattle.stage_plan.specs.Hops.{hops_from, hops_through}
use Rattle.stage_plan.proofs.planner.hops_of.Given as goal

-- what the planner still gives, after the hops so far, gives all of them
abbrev pub invariant-loop-turn : goal.invariant-loop-turn
invariant-loop-turn l = l.hops.items ++ hops_from (l._turn-end - l._turn) l.planner ≡ hops_through l.variables l.edges
