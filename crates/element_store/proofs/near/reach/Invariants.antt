use Rattle.std.proofs.Common.{◌≤◌}
use Rattle.element_store.proofs.near.reach.Given as goal

abbrev pub invariant-loop-place : goal.invariant-loop-place
invariant-loop-place l = l.reach ≤ 1024
