use Rattle.plan_tree.proofs.RowOrder.{rows_are_all}
use Rattle.plan_tree.proofs.laws.rows_are_all.Goals as goal

pub returns : goal.returns
returns c = rows_are_all
