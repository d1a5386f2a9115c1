use Rattle.dfs_worker.specs.Turn.{Fits}
use Rattle.turn_tests.specs.Fans.{fan_tree}
use Rattle.turn_tests.proofs.climb.climb.Given as goal

abbrev pub invariant-loop : goal.invariant-loop
invariant-loop g l = Fits g.F.Fabric.agrees g.F.Fabric.shape g.F.Fabric.roots (fan_tree l.fan) l.worker l.fabric
