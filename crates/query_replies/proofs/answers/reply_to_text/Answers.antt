use Rattle.std.proofs.Common.{◌∙◌}
use Rattle.query_replies.specs.Asked.{answering}
use Rattle.query_replies.specs.Verdicts.{IsAccepted}
use Rattle.query_replies.proofs.Growing.{meant_after}
use Rattle.query_replies.proofs.VerdictFacts.{answers_it}
use Rattle.query_replies.proofs.answers.reply_to_text.Goals as goal

pub asked_text-requires-clause-may : goal.asked_text-requires-clause-may
asked_text-requires-clause-may c =
    let some = c.requires.meant in
    let accepted : IsAccepted c.args.schema.now c.args.base c.args.text.now c.args.texts.now c.read_query.new.texts c.in-Accepted.query c.in-Accepted.plan
    = rw c.in-Accepted.is at c.in_ok-query.ensures.verdict in
    record {
      schema = c.args.schema.now;
      graph = some.graph;
      meant = meant_after c.args.texts.now c.read_query.new.texts c.args.schema.now some.graph c.args.asked.now c.in_ok-query.ensures.kept some.meant;
      kinds = accepted.kinds;
    }

pub returns-in_ok-text-in-Accepted-clause-reply : goal.returns-in_ok-text-in-Accepted-clause-reply
returns-in_ok-text-in-Accepted-clause-reply c = λ graph meant.
    let accepted : IsAccepted c.args.schema.now c.args.base c.args.text.now c.args.texts.now c.read_query.new.texts c.in-Accepted.query c.in-Accepted.plan
    = rw c.in-Accepted.is at c.in_ok-query.ensures.verdict in
    let later = meant_after c.args.texts.now c.read_query.new.texts c.args.schema.now graph c.args.asked.now c.in_ok-query.ensures.kept meant in
    answers_it (answering graph c.args.asked.now) c.args.schema.now c.args.number c.args.base c.args.text.now c.args.texts.now c.read_query.new.texts c.in-Accepted.query c.in-Accepted.plan
    c.answered.result.text.items c.answered.result.refused accepted
    (c.answered.ensures.text ∙ c.in_ok-text-in-Accepted.ensures.text c.args.schema.now graph later accepted.kinds) c.answered.ensures.refused
