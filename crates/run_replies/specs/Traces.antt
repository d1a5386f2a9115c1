-- The trace of the first query of a file, and what is told of one that is taken again.
use Rattle.std.specs.Prelude.{◌≡◌, ℕ, Bool, true, false, List, [], ◌∷◌, drop, ◌⊎◌, Result, Ok, Err}
use Rattle.std.specs.Str.Lines.{lines}
use Rattle.adfs_base.specs.Shape.{Extents}
use Rattle.match_context.specs.Tree.{Tree}
use Rattle.pgql_tree.specs.declared.ast.Ast.{Ast}
use Rattle.plan_tree.specs.Laws.{over_parts}
use Rattle.plan_tree.specs.PlanTree.{tree_of}
use Rattle.query_replies.specs.Replies.{Answering, IsAnswer, IsReading, Meaningful, piece_of, rows_over}
use Rattle.query_traces.specs.Traces.{IsTraceText, replayed_text}
use Rattle.run_status.specs.Faults.{status_of_replay}
use Rattle.run_status.specs.declared.status.Status.{Status}
use Rattle.run_trace.specs.Replay.{replayed}
use Rattle.run_trace.specs.Runs.{begun}
use Rattle.run_trace.specs.declared.replaying.Replayed.{Replayed}
use Rattle.stage_plan.specs.Plans.{plan_of, planned}
use Rattle.trace_text.specs.declared.fault.ReplayFault.{ReplayFault}
use Rattle.trace_text.specs.declared.header.Header.{Header}
use Rattle.typed_query.specs.declared.query.Query.{Query}
use Rattle.world_core.specs.World.{start_world}
use Rattle.run_replies.specs.Jobs.{Job, schema_of, shape_of, without_texts}

-- ---- the first query
-- It is refused by this line.
pub record IsRefusedBy (job : Job) (place : ℕ × ℕ) (line : List ℕ) : Type 0 where
  pub texts : List (List ℕ)
  pub refusal : (answering : Answering) → IsAnswer answering (schema_of job.graph) 1 place.0 (piece_of job.file place) job.graph.texts texts line true

-- It means this query, and the texts are these then. The query has a plan.
pub record Means (job : Job) (place : ℕ × ℕ) (texts : List (List ℕ)) (query : Query) : Type 0 where
  pub tree : Ast
  pub reading : IsReading (schema_of job.graph) place.0 (piece_of job.file place) job.graph.texts texts (Meaningful tree query)
  pub has_plan : planned query ≡ Ok (plan_of query)

-- the tree of its plan over the parts of the graph
abbrev pub tree_on : Header → Job → List (List ℕ) → Query → Tree
tree_on header job texts query = tree_of (over_parts texts (without_texts job.graph) query job.owner header.machines)

-- the shape of its run
abbrev pub shape_on : Header → Tree → Extents
shape_on header tree = shape_of header tree.stages

-- ---- the trace
-- The text is the trace of a run of that query, and its reply is the rows of its answer.
pub record IsTraceOf (header : Header) (job : Job) (place : ℕ × ℕ) (text : List ℕ) : Type 0 where
  pub texts : List (List ℕ)
  pub query : Query
  pub means : Means job place texts query
  pub trace : IsTraceText header (tree_on header job texts query) (shape_on header (tree_on header job texts query)) (rows_over (without_texts job.graph) texts 1 query) text

-- What is put of a file of queries that stand at these places: nothing where there are none; else the line by which the first
-- is refused, or what is due for it.
abbrev pub AnswersFirst : Job → (ℕ × ℕ → List ℕ → Type 0) → List (ℕ × ℕ) → List (List ℕ) → Bool → Type 0
AnswersFirst job IsDue [] replies refused = (replies ≡ []) × (refused ≡ false)
AnswersFirst job IsDue (place ∷ later) replies refused =
    (text : List ℕ) × (replies ≡ text ∷ []) × (((refused ≡ true) × IsRefusedBy job place text) ⊎ ((refused ≡ false) × IsDue place text))

-- The trace of the first query is put.
abbrev pub IsTraced : Header → Job → List (ℕ × ℕ) → List (List ℕ) → Bool → Type 0
IsTraced header job places replies refused = AnswersFirst job (IsTraceOf header job) places replies refused

-- ---- the same, taken again
-- what is answered where the lines after the header are taken again on a tree
abbrev pub told_on : Header → List ℕ → Tree → Result Replayed ReplayFault
told_on header bytes tree =
    replayed tree (drop 5 (lines bytes)) (start_world (shape_on header tree) tree) (begun (start_world (shape_on header tree) tree))

pub record IsToldOf (header : Header) (bytes : List ℕ) (job : Job) (place : ℕ × ℕ) (text : List ℕ) : Type 0 where
  pub texts : List (List ℕ)
  pub query : Query
  pub means : Means job place texts query
  pub told : Replayed
  pub is_told : told_on header bytes (tree_on header job texts query) ≡ Ok told
  pub text_is : text ≡ replayed_text (shape_on header (tree_on header job texts query)) told

-- What is told of it is put.
abbrev pub IsTaken : Header → List ℕ → Job → List (ℕ × ℕ) → List (List ℕ) → Bool → Type 0
IsTaken header bytes job places replies refused = AnswersFirst job (IsToldOf header bytes job) places replies refused

-- The trace can't be taken again: why, as a status.
pub record IsNotTold (header : Header) (bytes : List ℕ) (job : Job) (place : ℕ × ℕ) (status : Status) : Type 0 where
  pub texts : List (List ℕ)
  pub query : Query
  pub means : Means job place texts query
  pub why : ReplayFault
  pub is_why : told_on header bytes (tree_on header job texts query) ≡ Err why
  pub status_is : status ≡ status_of_replay why

abbrev pub IsNotTaken : Header → List ℕ → Job → List (ℕ × ℕ) → Status → Type 0
IsNotTaken header bytes job [] status = ⊥
IsNotTaken header bytes job (place ∷ later) status = IsNotTold header bytes job place status
