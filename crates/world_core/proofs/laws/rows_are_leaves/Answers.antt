use Rattle.world_core.proofs.Leaves.{rows_are_leaves}
use Rattle.world_core.proofs.laws.rows_are_leaves.Goals as goal

pub returns : goal.returns
returns c = rows_are_leaves
