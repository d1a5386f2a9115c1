use Rattle.match_context.proofs.Weights.{rows_weigh_as_leaves}
use Rattle.match_context.proofs.laws.rows_weigh_as_leaves.Goals as goal

pub returns : goal.returns
returns c = rows_weigh_as_leaves
