use Rattle.hop_kernels.specs.PlanTrees.{over_of}
use Rattle.serial_run.proofs.Answering.{answer_by}
use Rattle.serial_run.proofs.answer.rows_of_leaves.Goals as goal

pub returns : goal.returns
returns c =
    let gives = rw (c.query.ensures, c.requires.same) at c.collect.ensures.answer in
    λ schema graph job same. rw c.requires.same (answer_by (over_of c.args.tree.now) c.leaves_are_all.ensures c.args.leaves.items c.collect.result gives schema graph job same)
