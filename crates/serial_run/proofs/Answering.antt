-- The leaves of a query's tree give its answer, and the answer its reply.
use Rattle.std.proofs.Common.{◌≡◌, ℕ, List, Global, Vec, Result, Ok, Err, IfOk, sym, ap, subst, ◌∙◌}
use Rattle.std.specs.List.Sorted.{IsPermutation}
use Rattle.adfs_base.specs.declared.no_memory.NoMemory.{NoMemory}
use Rattle.adfs_base.specs.declared.value.Value.{Value}
use Rattle.graph_tables.specs.Graph.{PropertyGraph}
use Rattle.graph_tables.specs.Properties.{SchemaLists}
use Rattle.hop_kernels.specs.Laws.{TreesLeadToAll}
use Rattle.match_context.specs.Bags.{SameBag}
use Rattle.match_context.specs.Leaves.{tree_leaves}
use Rattle.match_context.specs.declared.context.Context.{Context}
use Rattle.pgql_meaning.specs.Answer.{all_matches, answer_of}
use Rattle.pgql_meaning.specs.Shown.{AreShown, HasMeaning, HasShown}
use Rattle.pgql_meaning.proofs.Validity.{answer-shown}
use Rattle.plan_tree.specs.PlanTree.{PlanOverParts, tree_of}
use Rattle.result_collect.specs.Contexts.{StandForEach}
use Rattle.result_collect.specs.Replies.{reply_text}
use Rattle.typed_query.specs.WellFormed.{IsWellFormed}
use Rattle.typed_query.specs.declared.query.Query.{Query}
use Rattle.serial_run.specs.Jobs.{IsJob, IsSomeJob}

-- what holds of what is given
pub if_ok : {X E : Type 0} (P Q : X → Type 0) → ((x : X) → P x → Q x) → (result : Result X E) → IfOk result P → IfOk result Q
if_ok P Q leads (Ok x) holds = leads x holds
if_ok P Q leads (Err e) holds = holds

-- what `collect` promises of contexts
abbrev pub Collects : List (List ℕ) → Query → List Context → List (List Value) → Type 0
Collects texts query contexts rows =
    (graph : PropertyGraph) (matches : List (List ℕ)) → StandForEach graph query contexts matches → IsPermutation (all_matches texts graph query) matches
    → HasShown texts graph → HasMeaning texts query → IsWellFormed query → rows ≡ answer_of texts graph query

module _ (over : PlanOverParts) where
  pub answer_by : TreesLeadToAll → (leaves : List Context) (result : Result (Vec (List Value) Global) NoMemory) → IfOk result (λ found. Collects over.texts over.query leaves found.items)
      → (schema : SchemaLists) (graph : PropertyGraph) → IsJob over schema graph → SameBag leaves (tree_leaves (tree_of over))
      → IfOk result (λ found. found.items ≡ answer_of over.texts graph over.query)
  answer_by law leaves result collects schema graph job same =
      let led = law over schema graph job.owner job.machines job.is job.some job.owned job.ends job.few_vertices job.few_edges job.shown job.well job.room job.kinds leaves same in
      if_ok (λ found. Collects over.texts over.query leaves found.items) (λ found. found.items ≡ answer_of over.texts graph over.query)
      (λ found gives. gives graph led.0 led.1 led.2 job.shown job.meaning job.well) result collects

  -- the values of such rows mean something
  pub answer_is_shown : (some : IsSomeJob over) (rows : List (List Value)) → rows ≡ answer_of over.texts some.graph over.query → AreShown over.texts rows
  answer_is_shown some rows is = subst (AreShown over.texts) (sym is) (answer-shown over.texts some.graph some.job.shown over.query some.job.meaning)
