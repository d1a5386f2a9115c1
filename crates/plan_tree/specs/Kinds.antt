-- When each value of a graph can be said in a word of the kind that a query expects.
use Rattle.std.specs.Prelude.{ℕ, ◌<◌, ◌^◌, List, length}
use Rattle.std.specs.List.{AllByRecursion}
use Rattle.graph_tables.specs.Graph.{FitsWords, HasTypes, PropertyGraph, without_ends}
use Rattle.graph_tables.specs.Properties.{SchemaLists}
use Rattle.typed_expr.specs.Captured.{HaveKinds}
use Rattle.typed_expr.specs.declared.query.Query.{Query}

-- Each value of the graph is of its property's kind and has 64 bits, and each capture of the query has its property's kind.
pub record HasKinds (texts : List (List ℕ)) (schema : SchemaLists) (graph : PropertyGraph) (query : Query) : Type 0 where
  pub few_texts : length texts < 2 ^ 32
  pub vertices_typed : AllByRecursion (HasTypes schema.vertex) graph.vertices
  pub edges_typed : AllByRecursion (HasTypes schema.edge) (without_ends graph.edges)
  pub vertices_fit : AllByRecursion FitsWords graph.vertices
  pub edges_fit : AllByRecursion FitsWords (without_ends graph.edges)
  pub captures_typed : HaveKinds schema query
