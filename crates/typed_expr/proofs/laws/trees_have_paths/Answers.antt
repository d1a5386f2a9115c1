use Rattle.typed_expr.proofs.Trees as trees
use Rattle.typed_expr.proofs.laws.trees_have_paths.Goals as goal

pub returns : goal.returns
returns c = trees.trees_have_paths
