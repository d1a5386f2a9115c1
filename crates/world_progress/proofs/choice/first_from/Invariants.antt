use Rattle.std.proofs.Common.{ℕ, ◌<◌, ◌≤◌}
use Rattle.world_progress.specs.Stuck.{IsIdle}
use Rattle.world_progress.proofs.choice.first_from.Given as goal

abbrev pub invariant-loop-w : goal.invariant-loop-w
invariant-loop-w g l = (i : ℕ) → l.from ≤ i → i < l.w → IsIdle l.world i
