use Rattle.std.proofs.Common.{ℕ, ◌<◌}
use Rattle.dfs_worker.specs.declared.event.Event.TheVariants as event
use Rattle.world_progress.specs.Choice.{IsOff}
use Rattle.world_progress.proofs.attempts.mark_of.Given as goal

abbrev pub invariant-loop-b : goal.invariant-loop-b
invariant-loop-b l = (n : ℕ) → n < l.b → IsOff l.world (event.Mark l.w l.a n)
