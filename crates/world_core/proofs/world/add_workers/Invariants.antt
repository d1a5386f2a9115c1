use Rattle.std.proofs.Common.{◌≡◌, ◌≤◌}
use Rattle.std.specs.Prelude.{vec_len, vec_capacity}
use Rattle.world_core.specs.World.{fresh_workers}
use Rattle.world_core.proofs.world.add_workers.Given as goal

abbrev pub invariant-loop-w : goal.invariant-loop-w
invariant-loop-w l = record {
  fresh : l.workers.items ≡ fresh_workers l.shape l.w;
  count : vec_len l.workers ≡ l.w;
  room : l.count ≤ vec_capacity l.workers;
}
