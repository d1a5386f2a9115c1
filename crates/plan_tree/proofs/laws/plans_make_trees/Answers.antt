use Rattle.plan_tree.proofs.Trees.{plans_make_trees}
use Rattle.plan_tree.proofs.laws.plans_make_trees.Goals as goal

pub returns : goal.returns
returns c = plans_make_trees
