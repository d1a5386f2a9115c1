use Rattle.plan_tree.proofs.KindsTold.{kinds_are_told}
use Rattle.plan_tree.proofs.laws.kinds_are_told.Goals as goal

pub returns : goal.returns
returns c = kinds_are_told
