-- The first query of a job: what it comes to, its trace, and what is told of a trace taken again.
use Rattle.std.proofs.Common.{◌≡◌, ℕ, Bool, true, false, List, [], ◌∷◌, length, drop, map, Option, Some, None, Result, Ok, Err, IfOk, inl, inr, refl, sym, ap, subst, ◌∙◌, Global, Vec}
use Rattle.std.specs.Str.Lines.{lines}
use Rattle.adfs_base.specs.Shape.{Extents}
use Rattle.adfs_base.specs.declared.no_memory.NoMemory.{NoMemory}
use Rattle.graph_tables.specs.Graph.{PropertyGraph}
use Rattle.graph_tables.specs.Properties.{SchemaLists}
use Rattle.match_context.specs.Tree.{Tree}
use Rattle.partition.specs.Owners.{IsOwner}
use Rattle.partition.specs.declared.owner.Owner.{Owner}
use Rattle.pgql_meaning.specs.Answer.{answer_of}
use Rattle.plan_tree.specs.Laws.{over_parts}
use Rattle.plan_tree.specs.PlanTree.{PlanOverParts, tree_of}
use Rattle.query_replies.proofs.Growing.{values_after}
use Rattle.query_replies.specs.Replies.{piece_of}
use Rattle.query_replies.specs.Verdicts.{IsVerdict}
use Rattle.query_replies.specs.declared.answers.Replies.{Replies}
use Rattle.query_replies.specs.declared.reading.Verdict.{Verdict}
use Rattle.query_replies.specs.declared.reading.Verdict.TheVariants as verdict
use Rattle.query_traces.specs.Traces.{IsTraceText, replayed_text, told_as}
use Rattle.result_collect.specs.Replies.{reply_text}
use Rattle.run_status.specs.Faults.{status_of_replay}
use Rattle.run_trace.specs.Replay.{replayed}
use Rattle.run_trace.specs.Runs.{begun}
use Rattle.run_trace.specs.declared.replaying.Replayed.{Replayed}
use Rattle.serial_run.specs.Engines.{HasItsValues}
use Rattle.trace_text.specs.Faults.{Gives}
use Rattle.trace_text.specs.declared.fault.ReplayFault.{ReplayFault}
use Rattle.trace_text.specs.declared.fault.ReplayFault.TheVariants as fault
use Rattle.trace_text.specs.declared.header.Header.{Header}
use Rattle.world_core.specs.World.{start_world}
use Rattle.value_text.specs.Texts.{Kept}
use Rattle.run_replies.specs.Firsts.{IsAsking, IsFirst, IsFirstVerdict, first_of}
use Rattle.run_replies.specs.Jobs.{Job, schema_of, shape_of, without_texts}
use Rattle.run_replies.specs.Telling.{IsToldAlone, QueryTaken, TakenGives}
use Rattle.run_replies.specs.Traces.{AnswersFirst, IsNotTaken, IsNotTold, IsTaken, IsToldOf, IsTraceOf, Means, shape_on, told_on, tree_on}
use Rattle.run_replies.specs.declared.first.Asking.{Asking}
use Rattle.run_replies.specs.declared.first.First.TheVariants.{Absent, Asked, Refused}

-- ---- what it comes to

module _ (job : Job) (graph : PropertyGraph) (owner : Owner) (new : List (List ℕ)) where
  by_places : (places : List (ℕ × ℕ)) (found : Option Verdict) → graph ≡ without_texts job.graph → owner ≡ job.owner → HasItsValues job.graph.texts (schema_of job.graph) graph
      → IsFirstVerdict (schema_of job.graph) job.file places job.graph.texts new found → IsFirst job places new (first_of found graph owner)
  by_places [] None graph_is owner_is values is = tt
  by_places [] (Some found) graph_is owner_is values is = absurd is
  by_places (place ∷ later) None graph_is owner_is values is = absurd is
  by_places (place ∷ later) (Some (verdict.Refused line)) graph_is owner_is values is = record { texts = new; refusal = is.0 }
  by_places (place ∷ later) (Some (verdict.Accepted query plan)) graph_is owner_is values is = record {
    accepted = is.0;
    values = values_after job.graph.texts new (schema_of job.graph) graph is.1 values;
    graph_is = graph_is;
    owner_is = owner_is;
  }

pub first_by : (job : Job) (schema : SchemaLists) (graph : PropertyGraph) (owner : Owner) (old new : List (List ℕ)) (found : Option Verdict)
    → schema ≡ schema_of job.graph → old ≡ job.graph.texts → graph ≡ without_texts job.graph → owner ≡ job.owner
    → HasItsValues job.graph.texts (schema_of job.graph) (without_texts job.graph)
    → IsFirstVerdict schema job.file job.places old new found → IsFirst job job.places new (first_of found graph owner)
first_by job schema graph owner old new found schema_is texts_are graph_is owner_is values is =
    by_places job graph owner new job.places found graph_is owner_is (subst (HasItsValues job.graph.texts (schema_of job.graph)) (sym graph_is) values)
    (subst (λ s. IsFirstVerdict s job.file job.places job.graph.texts new found) schema_is
    (subst (λ t. IsFirstVerdict schema job.file job.places t new found) texts_are is))

-- what is read of the first of them
pub first_read : (schema : SchemaLists) (file : List ℕ) (places later : List (ℕ × ℕ)) (place : ℕ × ℕ) (old new : List (List ℕ)) (found : Verdict) → places ≡ place ∷ later
    → IsVerdict schema 1 place.0 (piece_of file place) old new found → Kept old new → IsFirstVerdict schema file places old new (Some found)
first_read schema file places later place old new found are is stay = subst (λ ps. IsFirstVerdict schema file ps old new (Some found)) (sym are) (is, stay)

pub none_read : (schema : SchemaLists) (file : List ℕ) (places : List (ℕ × ℕ)) (old new : List (List ℕ)) → places ≡ [] → IsFirstVerdict schema file places old new None
none_read schema file places old new are = subst (λ ps. IsFirstVerdict schema file ps old new None) (sym are) tt

-- what is put of it
module _ (job : Job) (IsDue : ℕ × ℕ → List ℕ → Type 0) (texts : List (List ℕ)) where
  pub none_put : (places : List (ℕ × ℕ)) (replies : List (List ℕ)) (refused : Bool) → IsFirst job places texts Absent → replies ≡ [] → refused ≡ false
      → AnswersFirst job IsDue places replies refused
  none_put [] replies refused is replies_are is_refused = (replies_are, is_refused)
  none_put (place ∷ later) replies refused is replies_are is_refused = absurd is

  pub line_put : (places : List (ℕ × ℕ)) (line : Vec ℕ Global) (replies : List (List ℕ)) (refused : Bool) → IsFirst job places texts (Refused line) → replies ≡ line.items ∷ [] → refused ≡ true
      → AnswersFirst job IsDue places replies refused
  line_put [] line replies refused is replies_are is_refused = absurd is
  line_put (place ∷ later) line replies refused is replies_are is_refused = (line.items, replies_are, inl (is_refused, is))

  pub due_put : (places : List (ℕ × ℕ)) (asking : Asking) (text : List ℕ) (replies : List (List ℕ)) (refused : Bool) → IsFirst job places texts (Asked asking)
      → ((place : ℕ × ℕ) → IsAsking job place texts asking → IsDue place text) → replies ≡ text ∷ [] → refused ≡ false
      → AnswersFirst job IsDue places replies refused
  due_put [] asking text replies refused is due replies_are is_refused = absurd is
  due_put (place ∷ later) asking text replies refused is due replies_are is_refused = (text, replies_are, inr (is_refused, due place is))

-- one stands somewhere
pub asked_of_first : (job : Job) (places : List (ℕ × ℕ)) (texts : List (List ℕ)) (asking : Asking) → IsFirst job places texts (Asked asking)
    → (place : ℕ × ℕ) × IsAsking job place texts asking
asked_of_first job [] texts asking is = absurd is
asked_of_first job (place ∷ later) texts asking is = (place, is)

-- its owner is one of so many machines
pub owned_by : (header : Header) (job : Job) (texts : List (List ℕ)) (asking : Asking) → (place : ℕ × ℕ) × IsAsking job place texts asking
    → IsOwner job.owner (length job.graph.vertices) header.machines → IsOwner asking.owner (length asking.graph.vertices) header.machines
owned_by header job texts asking found owned =
    subst (λ owner. IsOwner owner (length asking.graph.vertices) header.machines) (sym found.1.owner_is)
    (subst (λ graph. IsOwner job.owner (length graph.vertices) header.machines) (sym found.1.graph_is) owned)

-- one text was put alone
pub put_alone : (job : Job) (IsDue : ℕ × ℕ → List ℕ → Type 0) (places : List (ℕ × ℕ)) (text : List ℕ) (refused : Bool) (result : Result Replies NoMemory)
    → ((replies : List (List ℕ)) (is_refused : Bool) → replies ≡ text ∷ [] → is_refused ≡ refused → AnswersFirst job IsDue places replies is_refused)
    → IfOk result (λ replies. map (λ t. t.items) replies.texts.items ≡ text ∷ []) → IfOk result (λ replies. replies.refused ≡ refused)
    → IfOk result (λ replies. AnswersFirst job IsDue places (map (λ t. t.items) replies.texts.items) replies.refused)
put_alone job IsDue places text refused (Ok replies) answers texts is_refused = answers (map (λ t. t.items) replies.texts.items) replies.refused texts is_refused
put_alone job IsDue places text refused (Err e) answers texts is_refused = tt

-- ---- on its tree

module _ (header : Header) (job : Job) (place : ℕ × ℕ) (texts : List (List ℕ)) (asking : Asking) where
  means_of : IsAsking job place texts asking → Means job place texts asking.query
  means_of is =
      let accepted = is.accepted in
      record { tree = accepted.tree; reading = accepted.is_reading; has_plan = accepted.has_plan.planned_so ∙ ap (λ plan. Ok plan) accepted.has_plan.plan_is }

  over_is : (over : PlanOverParts) → IsAsking job place texts asking → over ≡ over_parts texts asking.graph asking.query asking.owner header.machines
      → over ≡ over_parts texts (without_texts job.graph) asking.query job.owner header.machines
  over_is over is is_over =
      is_over ∙ ap (λ graph. over_parts texts graph asking.query asking.owner header.machines) is.graph_is
      ∙ ap (λ owner. over_parts texts (without_texts job.graph) asking.query owner header.machines) is.owner_is

  shape_is : (shape : Extents) → IsAsking job place texts asking → shape ≡ shape_of header (length asking.plan.stages) → shape ≡ shape_on header (tree_on header job texts asking.query)
  shape_is shape is is_shape = is_shape ∙ ap (λ plan. shape_of header (length plan.stages)) is.accepted.has_plan.plan_is

  trace_on : (over : PlanOverParts) (shape : Extents) (text : List ℕ) → IsAsking job place texts asking
      → over ≡ over_parts texts asking.graph asking.query asking.owner header.machines → shape ≡ shape_of header (length asking.plan.stages)
      → IsTraceText header (tree_of over) shape (reply_text texts 1 over.query (answer_of texts asking.graph over.query)) text
      → IsTraceOf header job place text
  trace_on over shape text is is_over is_shape trace =
      let tree = tree_on header job texts asking.query in
      let bare = without_texts job.graph in
      let on_graph = subst (λ graph. IsTraceText header (tree_of over) shape (reply_text texts 1 over.query (answer_of texts graph over.query)) text) is.graph_is trace in
      let on_tree = subst (λ o. IsTraceText header (tree_of o) shape (reply_text texts 1 o.query (answer_of texts bare o.query)) text) (over_is over is is_over) on_graph in
      record {
        texts = texts;
        query = asking.query;
        means = means_of is;
        trace = subst (λ s. IsTraceText header tree s (reply_text texts 1 asking.query (answer_of texts bare asking.query)) text) (shape_is shape is is_shape) on_tree;
      }

  pub trace_by : (over : PlanOverParts) (shape : Extents) (result : Result (Vec ℕ Global) NoMemory) → IsAsking job place texts asking
      → over ≡ over_parts texts asking.graph asking.query asking.owner header.machines → shape ≡ shape_of header (length asking.plan.stages)
      → IfOk result (λ text. IsTraceText header (tree_of over) shape (reply_text texts 1 over.query (answer_of texts asking.graph over.query)) text.items)
      → IfOk result (λ text. IsTraceOf header job place text.items)
  trace_by over shape (Ok text) is is_over is_shape trace = trace_on over shape text.items is is_over is_shape trace
  trace_by over shape (Err e) is is_over is_shape trace = tt

-- ---- taken again

-- what is told, by what the events came to
told_from : (shape : Extents) (came : Result Replayed ReplayFault) (text : List ℕ) → told_as shape came ≡ Ok text → (told : Replayed) × (came ≡ Ok told) × (text ≡ replayed_text shape told)
told_from shape (Ok told) text is = (told, refl, cc)
told_from shape (Err why) text is = cc

why_from : (shape : Extents) (came : Result Replayed ReplayFault) (why : ReplayFault) → told_as shape came ≡ Err why → came ≡ Err why
why_from shape (Ok told) why is = cc
why_from shape (Err found) why is =
    let same : found ≡ why = cc in
    ap (λ e. Err e) same

-- the events of a tree that begin there
abbrev came_to : List (List ℕ) → Tree → Extents → Result Replayed ReplayFault
came_to events tree shape = replayed tree events (start_world shape tree) (begun (start_world shape tree))

module _ (header : Header) (bytes : List ℕ) (job : Job) (place : ℕ × ℕ) (texts : List (List ℕ)) (asking : Asking) where
  not_told : (why : ReplayFault) → IsAsking job place texts asking → told_on header bytes (tree_on header job texts asking.query) ≡ Err why
      → IsNotTold header bytes job place (status_of_replay why)
  not_told why is came = record { texts = texts; query = asking.query; means = means_of header job place texts asking is; why = why; is_why = came; status_is = refl }

  taken_on : (result : Result (Vec ℕ Global) ReplayFault) → IsAsking job place texts asking
      → Gives (λ text. text.items) result (told_as (shape_on header (tree_on header job texts asking.query)) (told_on header bytes (tree_on header job texts asking.query)))
      → QueryTaken header bytes job place result
  taken_on (Ok text) is gives =
      let tree = tree_on header job texts asking.query in
      let told = told_from (shape_on header tree) (told_on header bytes tree) text.items gives in
      record { texts = texts; query = asking.query; means = means_of header job place texts asking is; told = told.0; is_told = told.1; text_is = told.2 }
  taken_on (Err fault.NoMemory) is gives = tt
  taken_on (Err (fault.BadLine line)) is gives =
      let tree = tree_on header job texts asking.query in
      not_told (fault.BadLine line) is (why_from (shape_on header tree) (told_on header bytes tree) (fault.BadLine line) gives)
  taken_on (Err (fault.NotEnabled line guard)) is gives =
      let tree = tree_on header job texts asking.query in
      not_told (fault.NotEnabled line guard) is (why_from (shape_on header tree) (told_on header bytes tree) (fault.NotEnabled line guard) gives)
  taken_on (Err fault.NotFinished) is gives =
      let tree = tree_on header job texts asking.query in
      not_told fault.NotFinished is (why_from (shape_on header tree) (told_on header bytes tree) fault.NotFinished gives)

  pub taken_by : (over : PlanOverParts) (shape : Extents) (events : List (List ℕ)) (result : Result (Vec ℕ Global) ReplayFault) → IsAsking job place texts asking
      → over ≡ over_parts texts asking.graph asking.query asking.owner header.machines → shape ≡ shape_of header (length asking.plan.stages) → events ≡ drop 5 (lines bytes)
      → Gives (λ text. text.items) result (told_as shape (came_to events (tree_of over) shape)) → QueryTaken header bytes job place result
  taken_by over shape events result is is_over is_shape are_events gives =
      let tree = tree_on header job texts asking.query in
      let on_tree = subst (λ o. Gives (λ text. text.items) result (told_as shape (came_to events (tree_of o) shape))) (over_is header job place texts asking over is is_over) gives in
      let on_shape = subst (λ s. Gives (λ text. text.items) result (told_as s (came_to events tree s))) (shape_is header job place texts asking shape is is_shape) on_tree in
      taken_on result is (subst (λ e. Gives (λ text. text.items) result (told_as (shape_on header tree) (came_to e tree (shape_on header tree)))) are_events on_shape)

-- the text alone
alone_ok : (header : Header) (bytes : List ℕ) (job : Job) (places : List (ℕ × ℕ)) (texts : List (List ℕ)) (asking : Asking) (text : Vec ℕ Global) (replies : Replies)
    → IsFirst job places texts (Asked asking) → ((place : ℕ × ℕ) → IsAsking job place texts asking → IsToldOf header bytes job place text.items)
    → IsToldAlone (Ok text) (Ok replies) → IsTaken header bytes job places (map (λ t. t.items) replies.texts.items) replies.refused
alone_ok header bytes job places texts asking text replies is due alone = due_put job (IsToldOf header bytes job) texts places asking text.items _ replies.refused is due alone.0 alone.1

not_taken : (header : Header) (bytes : List ℕ) (job : Job) (places : List (ℕ × ℕ)) (texts : List (List ℕ)) (asking : Asking) (why : ReplayFault)
    → IsFirst job places texts (Asked asking) → ((place : ℕ × ℕ) → IsAsking job place texts asking → IsNotTold header bytes job place (status_of_replay why))
    → IsNotTaken header bytes job places (status_of_replay why)
not_taken header bytes job [] texts asking why is due = absurd is
not_taken header bytes job (place ∷ later) texts asking why is due = due place is

alone_err : (header : Header) (bytes : List ℕ) (job : Job) (texts : List (List ℕ)) (asking : Asking) (why : ReplayFault) → IsFirst job job.places texts (Asked asking)
    → ((place : ℕ × ℕ) → IsAsking job place texts asking → QueryTaken header bytes job place (Err why)) → TakenGives header bytes job (Err why)
alone_err header bytes job texts asking fault.NoMemory is due = tt
alone_err header bytes job texts asking (fault.BadLine line) is due = not_taken header bytes job job.places texts asking (fault.BadLine line) is due
alone_err header bytes job texts asking (fault.NotEnabled line guard) is due = not_taken header bytes job job.places texts asking (fault.NotEnabled line guard) is due
alone_err header bytes job texts asking fault.NotFinished is due = not_taken header bytes job job.places texts asking fault.NotFinished is due

pub alone_by : (header : Header) (bytes : List ℕ) (job : Job) (texts : List (List ℕ)) (asking : Asking) (told : Result (Vec ℕ Global) ReplayFault) (result : Result Replies ReplayFault)
    → IsFirst job job.places texts (Asked asking) → ((place : ℕ × ℕ) → IsAsking job place texts asking → QueryTaken header bytes job place told) → IsToldAlone told result
    → TakenGives header bytes job result
alone_by header bytes job texts asking (Ok text) (Ok replies) is due alone = alone_ok header bytes job job.places texts asking text replies is due alone
alone_by header bytes job texts asking (Ok text) (Err why) is due alone = subst (λ e. TakenGives header bytes job (Err e)) (sym alone) tt
alone_by header bytes job texts asking (Err why) result is due alone = subst (TakenGives header bytes job) (sym alone) (alone_err header bytes job texts asking why is due)
