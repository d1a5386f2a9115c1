use Rattle.run_replies.specs.Given.{job_seen}
use Rattle.run_replies.specs.Jobs.{without_texts}
use Rattle.run_replies.proofs.JobFacts.{done_over, if_ok}
use Rattle.run_replies.proofs.answer.answer_given.Goals as goal

pub returns-in-Ok : goal.returns-in-Ok
returns-in-Ok c =
    if_ok _ _ (λ replies answers. done_over c.args.command c.args.header.now (job_seen c.args.given) c.in-Ok.loaded _ replies.refused c.requires.answering c.in-Ok.ensures answers) c.answer_loaded.result
    (c.answer_loaded.ensures (without_texts c.args.given.graph) c.in-Ok.ensures.meant)
