use Rattle.std.proofs.Common.{◌≡◌, ◌++◌, length}
use Rattle.stage_plan.specs.Walk.{rooted, stages_from}
use Rattle.stage_plan.proofs.plan.stages_from.Given as goal

-- the stages of the hops that are left, after those so far, are all of them
abbrev pub invariant-loop-hop : goal.invariant-loop-hop
invariant-loop-hop l = l.stages.items ++ stages_from l.query l.walk l.rest ≡ stages_from l.query (rooted l.query l.root) l.path

abbrev pub decreases-loop-hop : goal.decreases-loop-hop
decreases-loop-hop l = length l.rest
