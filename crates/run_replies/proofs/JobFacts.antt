-- What the queries of a run are answered over, and that their replies do the work.
use Rattle.std.proofs.Common.{◌≡◌, ℕ, ◌<◌, ◌^◌, Bool, List, length, Result, Ok, Err, IfOk, sym, subst, ◌∙◌, arith}
use Rattle.std.specs.List.{AllByRecursion}
use Rattle.adfs_base.specs.declared.no_memory.NoMemory.{NoMemory}
use Rattle.cli_words.specs.declared.command.Command.{Command}
use Rattle.cli_words.specs.declared.command.Command.TheVariants as command
use Rattle.graph_tables.specs.Graph.{EndsIn, IsWhole, PropertyGraph}
use Rattle.graph_tables.specs.Properties.{SchemaLists}
use Rattle.partition.specs.Owners.{IsOwner}
use Rattle.partition.specs.Parts.{MachinePart, PartsMeet}
use Rattle.partition.specs.declared.owner.Owner.{Owner}
use Rattle.query_replies.specs.Asked.{IsMeant, answering}
use Rattle.query_replies.specs.Replies.{AreAnswers}
use Rattle.query_replies.specs.declared.answers.Asked.{Asked}
use Rattle.query_replies.specs.declared.answers.Asked.TheVariants.{Plan, Rows}
use Rattle.serial_run.specs.Engines.{ArePartsOf, HasItsValues}
use Rattle.trace_text.specs.declared.header.Header.{Header}
use Rattle.run_replies.specs.Asking.{Asks, AsksOver, GoesOver, IsAnswered, IsAnswering, IsLoadedOf}
use Rattle.run_replies.specs.Jobs.{IsInLimits, Job, schema_of, without_texts}
use Rattle.run_replies.specs.Outcome.{IsDoneBy, work_on}
use Rattle.run_replies.specs.declared.answer.Loaded.{Loaded}

-- what holds of what is given
pub if_ok : {X E : Type 0} (P Q : X → Type 0) → ((x : X) → P x → Q x) → (result : Result X E) → IfOk result P → IfOk result Q
if_ok P Q leads (Ok x) holds = leads x holds
if_ok P Q leads (Err e) holds = holds

-- the graph of the tables means something under their texts, and its values have their properties' kinds
pub values_of : (graph : PropertyGraph) → IsWhole graph → HasItsValues graph.texts (schema_of graph) (without_texts graph)
values_of graph whole = record {
  shown = record { vertices_shown = whole.vertices_shown; edges_shown = whole.edges_shown };
  vertices_typed = whole.vertices_typed;
  edges_typed = whole.edges_typed;
  vertices_fit = whole.vertices_fit;
  edges_fit = whole.edges_fit;
}

meant_of : (texts : List (List ℕ)) (schema : SchemaLists) (graph : PropertyGraph) (asked : Asked) → HasItsValues texts schema graph → GoesOver graph asked → IsMeant texts schema graph asked
meant_of texts schema graph (Rows engine) values over = record { values = values; parts_of = over }
meant_of texts schema graph Plan values over = tt

-- ---- the work

-- rows, and plans, where the command has queries answered so
done_by : (asking : Command) (header : Header) (job : Job) (asked : Asked) (replies : List (List ℕ)) (refused : Bool) → IsAnswering asking → Asks asking asked
    → (new : List (List ℕ)) × AreAnswers (answering (without_texts job.graph) asked) (schema_of job.graph) job.file 1 job.places job.graph.texts new replies refused
    → IsDoneBy (work_on asking header job) replies refused
done_by command.Plan header job Plan replies refused is asks answers = answers
done_by command.Plan header job (Rows engine) replies refused is asks answers = absurd asks
done_by command.Run header job (Rows engine) replies refused is asks answers = answers
done_by command.Run header job Plan replies refused is asks answers = absurd asks
done_by command.Trace header job asked replies refused is asks answers = absurd is
done_by command.Replay header job asked replies refused is asks answers = absurd is
done_by command.Gen header job asked replies refused is asks answers = absurd is
done_by command.Help header job asked replies refused is asks answers = absurd is

-- the replies over what was loaded do the work that the command asks over the graph
pub done_over : (asking : Command) (header : Header) (job : Job) (loaded : Loaded) (replies : List (List ℕ)) (refused : Bool) → IsAnswering asking
    → IsLoadedOf asking job.graph loaded → IsAnswered (without_texts job.graph) loaded job.file job.places replies refused
    → IsDoneBy (work_on asking header job) replies refused
done_over asking header job loaded replies refused is of_graph answers =
    let over = answering (without_texts job.graph) loaded.asked in
    done_by asking header job loaded.asked replies refused is of_graph.asks
    (subst (λ schema. (new : List (List ℕ)) × AreAnswers over schema job.file 1 job.places job.graph.texts new replies refused) of_graph.schema_is
    (subst (λ texts. (new : List (List ℕ)) × AreAnswers over loaded.schema job.file 1 job.places texts new replies refused) of_graph.texts_are answers))

-- ---- parts

-- a graph that was split by what the run is on
pub split_by : (header : Header) (graph : PropertyGraph) (owner : Owner) (parts : List MachinePart) → IsInLimits header → IsOwner owner (length graph.vertices) header.machines
    → PartsMeet graph owner header.machines parts → AllByRecursion (EndsIn graph.vertices) graph.edges → length graph.vertices < 2 ^ 32 → length graph.edges < 2 ^ 32
    → ArePartsOf (without_texts graph) header.machines parts
split_by header graph owner parts limits owned meet ends few_vertices few_edges = record {
  owner = owner;
  some = omega (arith, limits.machines.0);
  few = omega (arith, limits.machines.1);
  owned = owned;
  parts_are = meet;
  ends = ends;
  few_vertices = few_vertices;
  few_edges = few_edges;
}

-- ---- what was loaded

pub loaded_of : (asking : Command) (graph : PropertyGraph) (asked : Result Asked NoMemory) (schema : SchemaLists) (texts : List (List ℕ)) (result : Result Loaded NoMemory)
    → IsWhole graph → schema ≡ schema_of graph → texts ≡ graph.texts → IfOk asked (AsksOver asking (without_texts graph))
    → IfOk result (λ loaded. (asked ≡ Ok loaded.asked) × (loaded.schema ≡ schema) × (loaded.texts ≡ texts)) → IfOk result (IsLoadedOf asking graph)
loaded_of asking graph asked schema texts (Ok loaded) whole schema_is texts_are asks parts =
    let over = subst (λ a. IfOk a (AsksOver asking (without_texts graph))) parts.0 asks in
    let its_schema = parts.1 ∙ schema_is in
    let its_texts = parts.2 ∙ texts_are in
    let values = subst (λ s. HasItsValues loaded.texts s (without_texts graph)) (sym its_schema) (subst (λ t. HasItsValues t (schema_of graph) (without_texts graph)) (sym its_texts) (values_of graph whole)) in
    record {
      asks = over.asks;
      schema_is = its_schema;
      texts_are = its_texts;
      meant = meant_of loaded.texts loaded.schema (without_texts graph) loaded.asked values over.over;
    }
loaded_of asking graph asked schema texts (Err e) whole schema_is texts_are asks parts = parts
