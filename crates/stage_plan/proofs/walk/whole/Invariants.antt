use Rattle.std.proofs.Common.{◌≡◌, ◌++◌, length}
use Rattle.stage_plan.specs.Walk.{whole}
use Rattle.stage_plan.proofs.walk.whole.Given as goal

abbrev pub invariant-loop-number : goal.invariant-loop-number
invariant-loop-number l = l.found ++ whole l.query l.known l.rest ≡ whole l.query l.known l.waiting

abbrev pub decreases-loop-number : goal.decreases-loop-number
decreases-loop-number l = length l.rest
