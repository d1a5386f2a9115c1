use Rattle.world_core.proofs.Bounds.{runs_are_bounded}
use Rattle.world_core.proofs.laws.runs_are_bounded.Goals as goal

pub returns : goal.returns
returns c = runs_are_bounded
