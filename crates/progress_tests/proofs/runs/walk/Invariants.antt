use Rattle.progress_tests.specs.Fans.{fan_tree}
use Rattle.world_core.specs.World.{Fits}
use Rattle.progress_tests.proofs.runs.walk.Given as goal

abbrev pub invariant-loop : goal.invariant-loop
invariant-loop g l = Fits (fan_tree l.fan) l.world.shared
