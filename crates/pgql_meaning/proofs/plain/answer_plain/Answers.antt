use Rattle.std.proofs.Common.{◌≡◌, ℕ, List, Result, Ok, Err, IfOk, map, sym, subst, refl}
use Rattle.answer_rows.specs.Arranged.{Arrangement, Shown, rows_of}
use Rattle.graph_tables.specs.Graph.{PropertyGraph}
use Rattle.typed_query.specs.declared.query.Query.{Query}
use Rattle.pgql_meaning.specs.Answer.{all_matches, answer_of, arrangement_of, shown}
use Rattle.pgql_meaning.specs.Shown.{AreShown}
use Rattle.pgql_meaning.proofs.Validity.{answer-shown}
use Rattle.pgql_meaning.proofs.plain.answer_plain.Goals as goal

-- the search, then the order
joined : (texts : List (List ℕ)) (graph : PropertyGraph) (query : Query) (arrangement : Arrangement) (found : List Shown)
    → arrangement ≡ arrangement_of query → found ≡ map (shown texts graph query) (all_matches texts graph query) → rows_of texts arrangement found ≡ answer_of texts graph query
joined texts graph query arrangement found is_arrangement is_found = rw (is_found, is_arrangement) refl

-- what holds of what is given
if_ok : {X E : Type 0} (P Q : X → Type 0) → ((x : X) → P x → Q x) → (result : Result X E) → IfOk result P → IfOk result Q
if_ok P Q leads (Ok x) holds = leads x holds
if_ok P Q leads (Err e) holds = holds

pub returns-clause-answer : goal.returns-clause-answer
returns-clause-answer c =
    let whole = joined c.args.texts.now c.args.graph.now c.args.query.now c.in_ok-arrangement.arrangement c.in_ok-matches.matches.items
    c.in_ok-arrangement.ensures c.in_ok-matches.ensures in
    subst (λ rows. IfOk c.rows_in_order.result (λ found. found.items ≡ rows)) whole c.rows_in_order.ensures

pub returns-clause-shown : goal.returns-clause-shown
returns-clause-shown c shown meaning =
    if_ok (λ rows. rows.items ≡ answer_of c.args.texts.now c.args.graph.now c.args.query.now) (λ rows. AreShown c.args.texts.now rows.items)
    (λ rows is. subst (AreShown c.args.texts.now) (sym is) (answer-shown c.args.texts.now c.args.graph.now shown c.args.query.now meaning)) c.rows_in_order.result (returns-clause-answer c)
