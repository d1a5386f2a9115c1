use Rattle.query_replies.proofs.Growing.{values_after}
use Rattle.query_replies.proofs.Steps.{on_ok, on_ok_so}
use Rattle.query_replies.proofs.VerdictFacts.{refused_by_text}
use Rattle.query_replies.proofs.reading.read_query.Goals as goal

pub verdict_on_tree-requires : goal.verdict_on_tree-requires
verdict_on_tree-requires c = record { paths = c.trees_have_paths.ensures 64 c.args.base c.args.text.now c.in-Ok.ast c.in-Ok.ensures.found }

pub returns-in_ok-refusal_of_syntax-in-Err-clause-verdict : goal.returns-in_ok-refusal_of_syntax-in-Err-clause-verdict
returns-in_ok-refusal_of_syntax-in-Err-clause-verdict c =
    refused_by_text c.args.schema.now c.args.number c.args.base c.args.text.now c.args.texts.now c.in-Err.fault c.in_ok-refusal_of_syntax-in-Err.field-0 c.refused.result
    (c.in-Err.ensures.fault c.in_ok-refusal_of_syntax-in-Err.ensures.memory) c.in_ok-refusal_of_syntax-in-Err.ensures.ok c.refused.ensures

pub returns-in-Ok-clause-verdict : goal.returns-in-Ok-clause-verdict
returns-in-Ok-clause-verdict c = c.verdict_on_tree.ensures.verdict c.args.base c.args.text.now c.in-Ok.ensures.found

pub returns-in-Ok-clause-values : goal.returns-in-Ok-clause-values
returns-in-Ok-clause-values c = λ graph values.
    on_ok_so c.verdict_on_tree.result _ _ (λ kept. values_after c.args.texts.now c.verdict_on_tree.new.texts c.args.schema.now graph kept values) c.verdict_on_tree.ensures.kept

pub returns-in_ok-refusal_of_syntax-in-Err-clause-values : goal.returns-in_ok-refusal_of_syntax-in-Err-clause-values
returns-in_ok-refusal_of_syntax-in-Err-clause-values c = λ graph values. on_ok c.refused.result _ values
