use Rattle.plan_tree.proofs.AllLeaves.{leaves_are_all}
use Rattle.plan_tree.proofs.laws.leaves_are_all.Goals as goal

pub returns : goal.returns
returns c = leaves_are_all
