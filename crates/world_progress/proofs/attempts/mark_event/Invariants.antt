use Rattle.std.proofs.Common.{ℕ, ◌<◌}
use Rattle.dfs_worker.specs.declared.event.Event.TheVariants as event
use Rattle.world_progress.specs.Choice.{IsOff}
use Rattle.world_progress.proofs.attempts.mark_event.Given as goal

abbrev pub invariant-loop-a : goal.invariant-loop-a
invariant-loop-a l = (a b : ℕ) → a < l.a → b < l.world.shared.shape.machines → IsOff l.world (event.Mark l.w a b)
