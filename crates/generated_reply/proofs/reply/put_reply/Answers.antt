use Rattle.std.proofs.Common.{◌≡◌, ◌∙◌, ◌++◌, ap, true, false}
use Rattle.pgql_meaning.specs.Answer.{answer_of}
use Rattle.query_replies.specs.Verdicts.{IsAccepted}
use Rattle.serial_run.specs.Engines.{HasItsValues}
use Rattle.generated_reply.specs.Summary.{Brief, query_text, rows_text}
use Rattle.generated_reply.proofs.Briefly.{brief_answer, brief_refusal, told_as, whole_values}
use Rattle.generated_reply.proofs.reply.put_reply.Goals as goal

pub put_answer-requires-clause-asked : goal.put_answer-requires-clause-asked
put_answer-requires-clause-asked c =
    let accepted : IsAccepted c.detach-schema.result.0 0 query_text c.detach-schema.result.1 c.read_query.new.texts c.in-Accepted.query c.in-Accepted.plan
    = rw c.in-Accepted.is at c.in-Ok.ensures.verdict in
    let values : HasItsValues c.detach-schema.result.1 c.detach-schema.result.0 c.detach-schema.new.self
    = rw (c.detach-schema.ensures.schema, c.detach-schema.ensures.texts, c.detach-schema.ensures.rest) (whole_values c.args.graph c.requires) in
    (c.detach-schema.result.0, c.in-Ok.ensures.values c.detach-schema.new.self values, accepted.kinds)

pub returns-in-Accepted : goal.returns-in-Accepted
returns-in-Accepted c =
    let texts = c.read_query.new.texts in
    let accepted : IsAccepted c.detach-schema.result.0 0 query_text c.detach-schema.result.1 c.read_query.new.texts c.in-Accepted.query c.in-Accepted.plan
    = rw c.in-Accepted.is at c.in-Ok.ensures.verdict in
    told_as c.put_answer.result c.answered.result (Brief c.args.graph c.args.out.now.items c.put_answer.new.out.items)
    (c.put_answer.new.out.items ≡ c.args.out.now.items ++ rows_text texts (answer_of texts c.detach-schema.new.self c.in-Accepted.query)) false
    c.answered.ensures c.put_answer.ensures
    (λ told. brief_answer c.args.graph c.detach-schema.result.0 c.detach-schema.result.1 c.detach-schema.ensures.schema c.detach-schema.ensures.texts texts
    c.args.out.now.items c.put_answer.new.out.items c.detach-schema.new.self c.in-Accepted.query c.in-Accepted.plan c.detach-schema.ensures.rest accepted told)

pub returns-in-Refused : goal.returns-in-Refused
returns-in-Refused c =
    let refusal = rw c.in-Refused.is at c.in-Ok.ensures.verdict in
    told_as c.put_line.result c.refused.result (Brief c.args.graph c.args.out.now.items c.put_line.new.out.items)
    (c.put_line.new.out.items ≡ c.args.out.now.items ++ c.deref.result.now) true c.refused.ensures c.put_line.ensures
    (λ told. brief_refusal c.args.graph c.detach-schema.result.0 c.detach-schema.result.1 c.detach-schema.ensures.schema c.detach-schema.ensures.texts c.read_query.new.texts
    c.args.out.now.items c.put_line.new.out.items c.in-Refused.line.items refusal (told ∙ ap (λ line. c.args.out.now.items ++ line) c.deref.ensures.value))
