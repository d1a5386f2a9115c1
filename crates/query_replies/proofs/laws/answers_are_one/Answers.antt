use Rattle.query_replies.proofs.One as one
use Rattle.query_replies.proofs.laws.answers_are_one.Goals as goal

pub returns : goal.returns
returns c = one.answers_are_one
