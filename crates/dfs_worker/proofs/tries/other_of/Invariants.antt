use Rattle.std.proofs.Common.{◌≡◌, ℕ, ◌<◌, false}
use Rattle.dfs_worker.specs.Turn.{is_postable}
use Rattle.dfs_worker.proofs.tries.other_of.Given as goal

abbrev pub invariant-loop-to : goal.invariant-loop-to
invariant-loop-to l = (n : ℕ) → n < l.to → is_postable l.worker l.stage n ≡ false
