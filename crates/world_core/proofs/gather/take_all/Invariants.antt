use Rattle.std.proofs.Common.{◌≡◌}
use Rattle.world_core.specs.World.{world_of}
use Rattle.world_core.proofs.Rowless.{first_rows, first_rowless}
use Rattle.world_core.proofs.gather.take_all.Given as goal

abbrev pub invariant-loop-w : goal.invariant-loop-w
invariant-loop-w l = record {
  world : l.world ≡ world_of (first_rowless l.w l.fn.world.workers) l.fn.world.shared;
  rows : l.rows.items ≡ first_rows l.w l.fn.world.workers;
}
