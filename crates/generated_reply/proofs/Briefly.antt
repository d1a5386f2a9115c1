-- What is told of a graph, from what its query came to.
use Rattle.std.proofs.Common.{◌≡◌, ◌∙◌, ◌++◌, ap, refl, sym, subst, ℕ, Bool, true, false, List, [], ◌∷◌, map, IfOk, MatchResult, OnOk, Result, Ok, Err}
use Rattle.adfs_base.specs.declared.no_memory.NoMemory.{NoMemory}
use Rattle.adfs_base.specs.declared.value.Value.{Value}
use Rattle.graph_tables.specs.Graph.{IsWhole, PropertyGraph}
use Rattle.graph_tables.specs.Properties.{SchemaLists}
use Rattle.graph_tables.specs.declared.faults.TableFault.{TableFault}
use Rattle.pgql_meaning.specs.Answer.{answer_of}
use Rattle.query_replies.specs.Replies.{Answering, IsAnswer}
use Rattle.query_replies.specs.Verdicts.{IsAccepted}
use Rattle.query_replies.specs.declared.answers.Replies.{Replies}
use Rattle.query_replies.proofs.VerdictFacts.{answers_it}
use Rattle.serial_run.specs.Engines.{HasItsValues}
use Rattle.stage_plan.specs.Plans.{Course}
use Rattle.typed_query.specs.declared.query.Query.{Query}
use Rattle.generated_reply.specs.Summary.{Brief, Generates, Summarizes, bare, made_text, query_text, rows_in_brief, rows_text, schema_of}

-- the values of a whole graph mean something under its texts
pub whole_values : (graph : PropertyGraph) → IsWhole graph → HasItsValues graph.texts (schema_of graph) (bare graph)
whole_values graph whole = record {
  shown = record { vertices_shown = whole.vertices_shown; edges_shown = whole.edges_shown };
  vertices_typed = whole.vertices_typed;
  edges_typed = whole.edges_typed;
  vertices_fit = whole.vertices_fit;
  edges_fit = whole.edges_fit;
}

-- the rows that were put are those of the answer
pub rows_told : (texts : List (List ℕ)) (graph : PropertyGraph) (asked query : Query) (rows shown : List (List Value)) (old new : List ℕ) (result : Result (Unit {0}) NoMemory)
    → shown ≡ rows → rows ≡ answer_of texts graph asked → asked ≡ query → OnOk result (new ≡ old ++ rows_text texts shown)
    → OnOk result (new ≡ old ++ rows_text texts (answer_of texts graph query))
rows_told texts graph asked query rows shown old new (Ok u) is answer same told = told ∙ ap (λ rows. old ++ rows_text texts rows) (is ∙ answer ∙ ap (answer_of texts graph) same)
rows_told texts graph asked query rows shown old new (Err e) is answer same told = tt

module _ (graph : PropertyGraph) (schema : SchemaLists) (old : List (List ℕ)) (is_schema : schema ≡ schema_of graph) (is_old : old ≡ graph.texts) (new : List (List ℕ)) (before after : List ℕ) where
  -- the query is answered
  pub brief_answer : (rest : PropertyGraph) (query : Query) (plan : Course) → rest ≡ bare graph → IsAccepted schema 0 query_text old new query plan
      → after ≡ before ++ rows_text new (answer_of new rest query) → Brief graph before after false
  brief_answer rest query plan is_rest accepted told =
      let as_due : IsAccepted (schema_of graph) 0 query_text graph.texts new query plan
      = subst (λ s. IsAccepted s 0 query_text graph.texts new query plan) is_schema (subst (λ texts. IsAccepted schema 0 query_text texts new query plan) is_old accepted) in
      record {
        rows = rows_text new (answer_of new (bare graph) query);
        texts = new;
        answers = answers_it (rows_in_brief (bare graph)) (schema_of graph) 1 0 query_text graph.texts new query plan (rows_text new (answer_of new (bare graph) query)) false as_due refl refl;
        after = told ∙ ap (λ g. before ++ rows_text new (answer_of new g query)) is_rest;
      }

  -- the query is refused
  pub brief_refusal : (line : List ℕ) → ((answering : Answering) → IsAnswer answering schema 1 0 query_text old new line true) → after ≡ before ++ line → Brief graph before after true
  brief_refusal line refused told = record {
    rows = line;
    texts = new;
    answers = subst (λ s. IsAnswer (rows_in_brief (bare graph)) s 1 0 query_text graph.texts new line true) is_schema
        (subst (λ texts. IsAnswer (rows_in_brief (bare graph)) schema 1 0 query_text texts new line true) is_old (refused (rows_in_brief (bare graph))));
    after = told;
  }

-- what comes of a write that is told as an answer or as a refusal
pub told_as : (told : Result (Unit {0}) NoMemory) (result : Result Bool NoMemory) (P : Bool → Type 0) (Q : Type 0) (refused : Bool)
    → MatchResult told (λ _. result ≡ Ok refused) (λ e. result ≡ Err e) → OnOk told Q → (Q → P refused) → IfOk result P
told_as (Ok u) result P Q refused is holds leads = subst (λ r. IfOk r P) (sym is) (leads holds)
told_as (Err e) result P Q refused is holds leads = subst (λ r. IfOk r P) (sym is) tt

-- the one text that is put
pub summary_by : (graph : PropertyGraph) (vertices edges : ℕ) (text : List ℕ) (refused : Bool) (result : Result Replies NoMemory) → Brief graph (made_text vertices edges) text refused
    → IfOk result (λ replies. (map (λ t. t.items) replies.texts.items ≡ text ∷ []) × (replies.refused ≡ refused))
    → IfOk result (λ replies. Summarizes graph vertices edges (map (λ t. t.items) replies.texts.items) replies.refused)
summary_by graph vertices edges text refused (Ok replies) brief one =
    subst (λ r. Summarizes graph vertices edges (map (λ t. t.items) replies.texts.items) r) (sym one.1) (record { text = text; brief = brief; replies_are = one.0 })
summary_by graph vertices edges text refused (Err e) brief one = tt

pub generates_by : (graph : PropertyGraph) (due : Result PropertyGraph TableFault) (vertices edges : ℕ) (result : Result Replies NoMemory) → due ≡ Ok graph
    → IfOk result (λ replies. Summarizes graph vertices edges (map (λ t. t.items) replies.texts.items) replies.refused) → IfOk result (Generates vertices edges due)
generates_by graph due vertices edges (Ok replies) is summary = (graph, is, summary)
generates_by graph due vertices edges (Err e) is summary = tt
