use Rattle.std.proofs.Common.{◌≡◌, ◌∙◌, IfOk, subst}
use Rattle.hop_kernels.specs.PlanTrees.{over_of}
use Rattle.result_collect.specs.Replies.{reply_text}
use Rattle.serial_run.proofs.Answering.{answer_is_shown}
use Rattle.query_traces.proofs.trace.reply_of_leaves.Goals as goal

pub reply_of_rows-requires : goal.reply_of_rows-requires
reply_of_rows-requires c =
    let some = c.requires.job in
    let is = rw c.requires.same at (c.in_ok-rows.ensures some.schema some.graph some.job c.requires.leaves) in
    rw (c.deref.ensures.value, c.requires.same) (answer_is_shown (over_of c.args.tree.now) some c.in_ok-rows.rows.items is)

pub returns : goal.returns
returns c = λ schema graph job.
    subst (λ rows. IfOk c.reply_of_rows.result (λ text. text.items ≡ reply_text c.args.texts.now c.args.number c.args.tree.now.query rows))
    (c.deref.ensures.value ∙ c.in_ok-rows.ensures schema graph job c.requires.leaves) (rw c.query.ensures at c.reply_of_rows.ensures)
