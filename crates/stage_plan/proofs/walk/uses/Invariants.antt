use Rattle.std.proofs.Common.{◌≡◌, ◌++◌, length}
use Rattle.stage_plan.specs.Walk.{uses}
use Rattle.stage_plan.proofs.walk.uses.Given as goal

abbrev pub invariant-loop-number : goal.invariant-loop-number
invariant-loop-number l = l.found ++ uses l.query l.rest ≡ uses l.query l.numbers

abbrev pub decreases-loop-number : goal.decreases-loop-number
decreases-loop-number l = length l.rest
