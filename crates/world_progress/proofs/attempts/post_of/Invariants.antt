use Rattle.std.proofs.Common.{ℕ, ◌<◌}
use Rattle.dfs_worker.specs.declared.event.Event.TheVariants as event
use Rattle.world_progress.specs.Choice.{IsOff}
use Rattle.world_progress.proofs.attempts.post_of.Given as goal

abbrev pub invariant-loop-to : goal.invariant-loop-to
invariant-loop-to l = (n : ℕ) → n < l.to → IsOff l.world (event.Post l.w l.stage n)
