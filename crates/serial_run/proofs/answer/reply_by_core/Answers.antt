use Rattle.std.proofs.Common.{◌≡◌, IfOk, subst, ◌∙◌}
use Rattle.result_collect.specs.Replies.{reply_text}
use Rattle.serial_run.proofs.answer.reply_by_core.Goals as goal

pub reply_of_rows-requires : goal.reply_of_rows-requires
reply_of_rows-requires c = rw c.deref.ensures.value (c.in_ok-rows.ensures.shown c.requires.job)

pub returns : goal.returns
returns c = λ schema graph job.
    subst (λ rows. IfOk c.reply_of_rows.result (λ text. text.items ≡ reply_text c.args.texts.now c.args.number c.args.tree.now.query rows))
    (c.deref.ensures.value ∙ c.in_ok-rows.ensures.answer schema graph job) (rw c.query.ensures at c.reply_of_rows.ensures)
