-- Plans over the parts of a graph.
use Rattle.std.specs.Prelude.{ℕ, ◌<◌, ◌^◌, List, length}
use Rattle.std.specs.List.{AllByRecursion}
use Rattle.graph_tables.specs.Graph.{EndsIn, PropertyGraph}
use Rattle.partition.specs.Owners.{IsOwner}
use Rattle.partition.specs.Parts.{MachinePart, PartsMeet}
use Rattle.partition.specs.declared.owner.Owner.{Owner}
use Rattle.match_context.specs.Tree.{Tree}
use Rattle.typed_expr.specs.declared.query.Query.{Query}
use Rattle.stage_plan.specs.Plans.{Course}
use Rattle.plan_tree.specs.PlanTree.{tree_of}

-- The parts are those of a graph, whoever owns its vertices.
pub record AreParts (parts : List MachinePart) : Type 0 where
  pub graph : PropertyGraph
  pub owner : Owner
  pub machines : ℕ
  pub some : 0 < machines
  pub few : machines < 2 ^ 32
  pub owned : IsOwner owner (length graph.vertices) machines
  pub ends : AllByRecursion (EndsIn graph.vertices) graph.edges
  pub parts_are : PartsMeet graph owner machines parts

-- the tree of a plan over parts
abbrev pub tree_over : List (List ℕ) → Query → Course → List MachinePart → Tree
tree_over texts query plan parts = tree_of (record { texts = texts; query = query; plan = plan; parts = parts })
