use Rattle.std.proofs.Common.{◌≡◌, Result, Ok, Err, IfOk, map, ◌∙◌}
use Rattle.answer_rows.specs.Arranged.{rows_of}
use Rattle.pgql_meaning.specs.Answer.{arrangement_of}
use Rattle.result_collect.specs.Contexts.{shown_in}
use Rattle.result_collect.proofs.Collected.{rows-of_contexts}
use Rattle.result_collect.proofs.rows.collect.Goals as goal

-- what holds of what is given
if_ok : {X E : Type 0} (P Q : X → Type 0) → ((x : X) → P x → Q x) → (result : Result X E) → IfOk result P → IfOk result Q
if_ok P Q leads (Ok x) holds = leads x holds
if_ok P Q leads (Err e) holds = holds

pub returns-clause-answer : goal.returns-clause-answer
returns-clause-answer c =
    let texts = c.args.texts.now in
    let query = c.args.query.now in
    if_ok (λ found. found.items ≡ rows_of texts (arrangement_of query) (map (shown_in texts query) c.args.rows.items)) _
    (λ found is graph matches stand permuted graph_shown meaning formed.
    is ∙ rows-of_contexts texts graph query c.len-count.ensures.distinct graph_shown meaning formed c.args.rows.items matches stand permuted)
    c.rows_shown.result c.rows_shown.ensures
