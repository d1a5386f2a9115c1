use Rattle.std.proofs.Common.{◌≡◌, ℕ, ◌<◌, ◌≤◌, false}
use Rattle.dfs_worker.specs.Turn.{is_postable}
use Rattle.dfs_worker.proofs.tries.first_other.Given as goal

abbrev pub invariant-loop-stage : goal.invariant-loop-stage
invariant-loop-stage l = record {
  low : l.stage ≤ l.worker.shape.stages;
  none : (k n : ℕ) → l.stage ≤ k → k < l.worker.shape.stages → n < l.worker.shape.machines → is_postable l.worker k n ≡ false;
}

abbrev pub decreases-loop-stage : goal.decreases-loop-stage
decreases-loop-stage l = l.stage
