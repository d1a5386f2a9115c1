use Rattle.run_replies.proofs.JobFacts.{if_ok}
use Rattle.run_replies.proofs.answer.answer_loaded.Goals as goal

pub returns : goal.returns
returns c = λ graph meant.
    if_ok _ _ (λ replies answers. (c.answer_queries.new.texts, answers)) c.answer_queries.result (rw (c.deref.ensures.value, c.deref-2.ensures.value) at (c.answer_queries.ensures graph meant))
