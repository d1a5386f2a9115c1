-- A query that is asked of an engine makes a job.
use Rattle.std.proofs.Common.{◌≡◌, ℕ, ◌<◌, ◌≤◌, ◌^◌, List, length, refl, sym, ap, ◌∙◌, subst}
use Rattle.std.specs.List.{AllByRecursion}
use Rattle.std.proofs.lemmas.List.FromFn.{length-map-range_with_len}
use Rattle.adfs_base.specs.declared.limits.TheConstants.{CONTEXT_WORDS}
use Rattle.graph_tables.specs.Graph.{EndsIn, PropertyGraph}
use Rattle.graph_tables.specs.Properties.{SchemaLists}
use Rattle.hop_kernels.specs.Over.{AreParts}
use Rattle.partition.specs.Owners.{IsOwner}
use Rattle.partition.specs.Parts.{MachinePart, part_of, parts_of}
use Rattle.partition.specs.declared.owner.Owner.{Owner}
use Rattle.pgql_meaning.specs.Shown.{HasMeaning}
use Rattle.plan_tree.specs.Laws.{over_parts}
use Rattle.plan_tree.specs.PlanTree.{PlanOverParts}
use Rattle.typed_expr.specs.Captured.{HaveKinds}
use Rattle.stage_plan.specs.Plans.{plan_of, words_of}
use Rattle.typed_query.specs.WellFormed.{IsWellFormed}
use Rattle.typed_query.specs.declared.query.Query.{Query}
use Rattle.serial_run.specs.Engines.{ArePartsOf, HasItsValues, IsAsked, IsAskedOfSome, Machines, machines_of, with_stages}
use Rattle.serial_run.specs.Jobs.{IsJob}

pub are_parts : (graph : PropertyGraph) (machines : ℕ) (parts : List MachinePart) → ArePartsOf graph machines parts → AreParts parts
are_parts graph machines parts are = record {
  graph = graph;
  owner = are.owner;
  machines = machines;
  some = are.some;
  few = are.few;
  owned = are.owned;
  ends = are.ends;
  parts_are = are.parts_are;
}

-- there is one for each machine
pub length-parts : (graph : PropertyGraph) (machines : ℕ) (parts : List MachinePart) → ArePartsOf graph machines parts → length parts ≡ machines
length-parts graph machines parts are = ap length are.parts_are ∙ length-map-range_with_len (λ m. part_of graph are.owner machines m) 0 machines

-- the plan of the query over the engine's parts
abbrev pub over_engine : List (List ℕ) → Machines → Query → PlanOverParts
over_engine texts engine query = record { texts = texts; query = query; plan = plan_of query; parts = engine.parts }

module _ (texts : List (List ℕ)) (schema : SchemaLists) (graph : PropertyGraph) (engine : Machines) (query : Query) where
  job : IsAsked texts schema graph engine query → IsWellFormed query → words_of query ≤ CONTEXT_WORDS → HasMeaning texts query → length texts < 2 ^ 32
      → IsJob (over_engine texts engine query) schema graph
  job asked well room meaning few_texts =
      let parts = asked.over.parts_of in
      let values = asked.over.values in
      record {
        owner = parts.owner;
        machines = engine.shape.machines;
        is = ap (λ ps. record { texts = texts; query = query; plan = plan_of query; parts = ps }) parts.parts_are;
        some = parts.some;
        owned = parts.owned;
        ends = parts.ends;
        few_vertices = parts.few_vertices;
        few_edges = parts.few_edges;
        shown = values.shown;
        well = well;
        room = room;
        kinds = record {
          few_texts = few_texts;
          vertices_typed = values.vertices_typed;
          edges_typed = values.edges_typed;
          vertices_fit = values.vertices_fit;
          edges_fit = values.edges_fit;
          captures_typed = asked.kinds;
        };
        meaning = meaning;
      }

  pub job_of : (over : PlanOverParts) → over ≡ over_engine texts engine query
      → IsAsked texts schema graph engine query → IsWellFormed query → words_of query ≤ CONTEXT_WORDS → HasMeaning texts query → length texts < 2 ^ 32
      → IsJob over schema graph
  job_of over is asked well room meaning few_texts =
      subst (λ o. IsJob o schema graph) (sym is) (job asked well room meaning few_texts)

-- what is asked doesn't rest on the number of stages
pub any_stages : (texts : List (List ℕ)) (schema : SchemaLists) (graph : PropertyGraph) (engine : Machines) (query : Query) (stages : ℕ)
    → IsAsked texts schema graph engine query → IsAsked texts schema graph (machines_of engine.parts (with_stages engine.shape stages)) query
any_stages texts schema graph engine query stages asked =
    record { over = record { values = asked.over.values; parts_of = asked.over.parts_of }; kinds = asked.kinds }

pub any_stages-some : (texts : List (List ℕ)) (engine : Machines) (query : Query) (stages : ℕ)
    → IsAskedOfSome texts engine query → IsAskedOfSome texts (machines_of engine.parts (with_stages engine.shape stages)) query
any_stages-some texts engine query stages some =
    record { schema = some.schema; graph = some.graph; asked = any_stages texts some.schema some.graph engine query stages some.asked }

-- how many machines the parts of a graph make
pub length-parts_of : (graph : PropertyGraph) (owner : Owner) (machines : ℕ) → length (parts_of graph owner machines) ≡ machines
length-parts_of graph owner machines = length-map-range_with_len (λ m. part_of graph owner machines m) 0 machines

-- the plan of a query over the parts of a graph makes a job
module _ (texts : List (List ℕ)) (schema : SchemaLists) (graph : PropertyGraph) (query : Query) (owner : Owner) (machines : ℕ) where
  pub job_over : (over : PlanOverParts) → over ≡ over_parts texts graph query owner machines → 0 < machines → machines < 2 ^ 32 → IsOwner owner (length graph.vertices) machines
      → AllByRecursion (EndsIn graph.vertices) graph.edges → length graph.vertices < 2 ^ 32 → length graph.edges < 2 ^ 32
      → HasItsValues texts schema graph → HaveKinds schema query → IsWellFormed query → words_of query ≤ CONTEXT_WORDS → HasMeaning texts query → length texts < 2 ^ 32
      → IsJob over schema graph
  job_over over is some few owned ends few_vertices few_edges values kinds well room meaning few_texts =
      let engine : Machines = machines_of (parts_of graph owner machines) (record { machines = machines; workers = 1; stages = 1; credit = 1; broad = 1; buffer = 1 }) in
      let parts : ArePartsOf graph machines (parts_of graph owner machines)
      = record { owner = owner; some = some; few = few; owned = owned; parts_are = refl; ends = ends; few_vertices = few_vertices; few_edges = few_edges } in
      let asked : IsAsked texts schema graph engine query = record { over = record { values = values; parts_of = parts }; kinds = kinds } in
      job_of texts schema graph engine query over is asked well room meaning few_texts
