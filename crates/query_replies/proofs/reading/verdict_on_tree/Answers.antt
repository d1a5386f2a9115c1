use Rattle.query_replies.proofs.Growing.{kept_same, typed-kept}
use Rattle.query_replies.proofs.Steps.{faulty, on_ok}
use Rattle.query_replies.proofs.VerdictFacts.{on_query, refused_by_tree}
use Rattle.query_replies.proofs.reading.verdict_on_tree.Goals as goal

pub returns-in-Ok-clause-verdict : goal.returns-in-Ok-clause-verdict
returns-in-Ok-clause-verdict c = λ base text is_tree.
    on_query c.args.schema.now c.args.number base text c.args.texts.now c.type_query.new.texts c.args.ast c.in-Ok.query c.planned.result is_tree c.in-Ok.ensures.exact
    (c.in-Ok.ensures.well_formed c.requires.paths) c.in-Ok.ensures.valid c.in-Ok.ensures.kinds c.planned.ensures

pub returns-in-Ok-clause-kept : goal.returns-in-Ok-clause-kept
returns-in-Ok-clause-kept c =
    on_ok c.planned.result _ (typed-kept c.args.schema.now c.args.texts.now c.args.ast c.in-Ok.query c.type_query.new.texts c.in-Ok.ensures.exact)

pub returns-in_ok-refusal_of_typing-in-Err-clause-verdict : goal.returns-in_ok-refusal_of_typing-in-Err-clause-verdict
returns-in_ok-refusal_of_typing-in-Err-clause-verdict c = λ base text is_tree.
    refused_by_tree c.args.schema.now c.args.number base text c.args.texts.now c.type_query.new.texts c.args.ast c.in-Err.fault c.in_ok-refusal_of_typing-in-Err.field-0 c.refused.result is_tree
    c.in_ok-refusal_of_typing-in-Err.ensures.memory c.in-Err.ensures.exact c.in_ok-refusal_of_typing-in-Err.ensures.ok c.refused.ensures

pub returns-in_ok-refusal_of_typing-in-Err-clause-kept : goal.returns-in_ok-refusal_of_typing-in-Err-clause-kept
returns-in_ok-refusal_of_typing-in-Err-clause-kept c =
    let told = faulty c.args.schema.now c.args.texts.now c.type_query.new.texts c.args.ast c.in-Err.fault c.in_ok-refusal_of_typing-in-Err.ensures.memory c.in-Err.ensures.exact in
    on_ok c.refused.result _ (kept_same c.args.texts.now c.type_query.new.texts told.1)
