use Rattle.std.proofs.Common.{subst}
use Rattle.match_context.specs.Bags.{SameBag}
use Rattle.match_context.specs.Leaves.{tree_leaves}
use Rattle.plan_tree.specs.PlanTree.{tree_of}
use Rattle.plan_tree.proofs.RowOrder.{rows_are_all}
use Rattle.hop_kernels.proofs.laws.leaves_are_all.Goals as goal

pub returns : goal.returns
returns c = λ over schema graph owner machines is some owned ends few_vertices few_edges shown formed room kinds rows same.
    rows_are_all over.texts schema graph over.query owner machines some owned ends few_vertices few_edges shown formed room kinds rows
    (subst (λ o. SameBag rows (tree_leaves (tree_of o))) is same)
