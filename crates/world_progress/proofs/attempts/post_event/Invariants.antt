use Rattle.std.proofs.Common.{ℕ, ◌<◌, ◌≤◌}
use Rattle.dfs_worker.specs.declared.event.Event.TheVariants as event
use Rattle.world_progress.specs.Choice.{IsOff}
use Rattle.world_progress.proofs.attempts.post_event.Given as goal

abbrev pub invariant-loop-stage : goal.invariant-loop-stage
invariant-loop-stage l = (k n : ℕ) → l.stage ≤ k → k < l.initial.stage → n < l.world.shared.shape.machines → IsOff l.world (event.Post l.w k n)

abbrev pub decreases-loop-stage : goal.decreases-loop-stage
decreases-loop-stage l = l.stage
