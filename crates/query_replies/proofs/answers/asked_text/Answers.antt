use Rattle.query_replies.proofs.answers.asked_text.Goals as goal

pub returns-in-Rows-clause-text : goal.returns-in-Rows-clause-text
returns-in-Rows-clause-text c = λ schema graph meant kinds.
    rw c.in-Rows.is (c.reply.ensures.text schema graph (record { over = rw c.in-Rows.is at meant; kinds = kinds }))
