-- The trees of queries over the parts of a graph.
use Rattle.std.specs.Prelude.{◌≡◌, ℕ, ◌<◌, ◌≤◌, ◌^◌, length}
use Rattle.std.specs.List.{AllByRecursion}
use Rattle.adfs_base.specs.declared.limits.TheConstants.{CONTEXT_WORDS}
use Rattle.graph_tables.specs.Graph.{EndsIn, PropertyGraph}
use Rattle.graph_tables.specs.Properties.{SchemaLists}
use Rattle.partition.specs.Owners.{IsOwner}
use Rattle.partition.specs.declared.owner.Owner.{Owner}
use Rattle.pgql_meaning.specs.Shown.{HasMeaning, HasShown}
use Rattle.plan_tree.specs.Kinds.{HasKinds}
use Rattle.plan_tree.specs.Laws.{over_parts}
use Rattle.plan_tree.specs.PlanTree.{PlanOverParts}
use Rattle.stage_plan.specs.Plans.{words_of}
use Rattle.typed_query.specs.WellFormed.{IsWellFormed}

-- The plan is that of a query that means something, and goes over the parts of the graph. So the leaves of its tree stand for
-- the query's matches.
pub record IsJob (over : PlanOverParts) (schema : SchemaLists) (graph : PropertyGraph) : Type 0 where
  pub owner : Owner
  pub machines : ℕ
  pub is : over ≡ over_parts over.texts graph over.query owner machines
  pub some : 0 < machines
  pub owned : IsOwner owner (length graph.vertices) machines
  pub ends : AllByRecursion (EndsIn graph.vertices) graph.edges
  pub few_vertices : length graph.vertices < 2 ^ 32
  pub few_edges : length graph.edges < 2 ^ 32
  pub shown : HasShown over.texts graph
  pub well : IsWellFormed over.query
  pub room : words_of over.query ≤ CONTEXT_WORDS
  pub kinds : HasKinds over.texts schema graph over.query
  pub meaning : HasMeaning over.texts over.query

pub record IsSomeJob (over : PlanOverParts) : Type 0 where
  pub schema : SchemaLists
  pub graph : PropertyGraph
  pub job : IsJob over schema graph
