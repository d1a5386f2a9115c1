use Rattle.std.proofs.Common.{◌≡◌, ℕ, length, Some}
use Rattle.std.specs.Prelude.{slice_get}
use Rattle.fabric.specs.Queue.{Stock, full_stock}
use Rattle.fabric.proofs.plain.new_pools.Given as goal

-- the pools so far are those of the machines so far, each full
abbrev pub invariant-loop-machine : goal.invariant-loop-machine
invariant-loop-machine l = record {
  count : length l.pools.items ≡ l.machine;
  full : (m : ℕ) (p : Stock) → slice_get l.pools.items m ≡ Some p → p ≡ full_stock l.shape m;
}
