use Rattle.std.proofs.Common.{◌≡◌, ◌++◌, length}
use Rattle.stage_plan.specs.Walk.{still_waiting}
use Rattle.stage_plan.proofs.walk.still_waiting.Given as goal

abbrev pub invariant-loop-number : goal.invariant-loop-number
invariant-loop-number l = l.found.items ++ still_waiting l.query l.known l.rest ≡ still_waiting l.query l.known l.waiting

abbrev pub decreases-loop-number : goal.decreases-loop-number
decreases-loop-number l = length l.rest
