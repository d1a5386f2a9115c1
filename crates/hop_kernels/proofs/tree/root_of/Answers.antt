use Rattle.std.proofs.Common.{ap}
use Rattle.plan_tree.specs.PlanTree.{no_words, root_of}
use Rattle.hop_kernels.proofs.tree.root_of.Goals as goal

pub returns : goal.returns
unfolding no_words
returns c = ap (λ n. root_of n) c.from.ensures
