use Rattle.std.proofs.Common.{◌≡◌, ◌≤◌}
use Rattle.std.specs.Prelude.{vec_len, vec_capacity}
use Rattle.world_core.specs.World.{roots_of}
use Rattle.world_core.proofs.world.roots_of.Given as goal

abbrev pub invariant-loop-machine : goal.invariant-loop-machine
invariant-loop-machine g l = record {
  roots : l.roots.items ≡ roots_of (g.X.Expand.tree l.x) l.machine;
  count : vec_len l.roots ≡ l.machine;
  room : l.machines ≤ vec_capacity l.roots;
}
