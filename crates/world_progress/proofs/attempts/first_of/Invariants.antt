use Rattle.std.proofs.Common.{◌≡◌, ℕ, ◌<◌, Some}
use Rattle.std.specs.Prelude.{slice_get}
use Rattle.bfs_budget.specs.declared.tries.Attempt.{Attempt}
use Rattle.world_progress.specs.Choice.{Fails}
use Rattle.world_progress.proofs.attempts.first_of.Given as goal

abbrev pub invariant-loop-attempt : goal.invariant-loop-attempt
invariant-loop-attempt l = (at : ℕ) (x : Attempt) → at < l.attempt-index → slice_get l.attempts at ≡ Some x → Fails l.world l.w x
