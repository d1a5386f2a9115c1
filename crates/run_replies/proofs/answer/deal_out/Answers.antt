use Rattle.run_replies.proofs.JobFacts.{loaded_of}
use Rattle.run_replies.proofs.answer.deal_out.Goals as goal

pub returns : goal.returns
returns c =
    loaded_of c.args.command c.args.graph c.asked_of-asked.result c.detach-schema.result.0 c.detach-schema.result.1 c.loaded_with.result c.requires.whole c.detach-schema.ensures.schema c.detach-schema.ensures.texts
    (rw c.detach-schema.ensures.rest at c.asked_of-asked.ensures) c.loaded_with.ensures
