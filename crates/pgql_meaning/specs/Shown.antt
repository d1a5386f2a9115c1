-- When a graph means something under texts, and rows do.
use Rattle.std.specs.Prelude.{ℕ, List, All}
use Rattle.std.specs.List.{AllByRecursion}
use Rattle.adfs_base.specs.declared.value.Value.{Value}
use Rattle.graph_tables.specs.Graph.{IsShown, PropertyGraph, without_ends}
use Rattle.typed_query.specs.Parts.{HasValidConstants}
use Rattle.typed_query.specs.WellFormed.{expressions}
use Rattle.typed_query.specs.declared.query.Query.{Query}
use Rattle.value_text.specs.Valid.{IsValid}

-- The labels and the values of the graph's elements mean something under the texts.
pub record HasShown (texts : List (List ℕ)) (graph : PropertyGraph) : Type 0 where
  pub vertices_shown : AllByRecursion (IsShown texts) graph.vertices
  pub edges_shown : AllByRecursion (IsShown texts) (without_ends graph.edges)

-- The constants of the query's expressions mean something under the texts.
abbrev pub HasMeaning : List (List ℕ) → Query → Type 0
HasMeaning texts query = All (HasValidConstants texts) (expressions query)

-- Each value of each row means something under the texts.
abbrev pub AreShown : List (List ℕ) → List (List Value) → Type 0
AreShown texts rows = AllByRecursion (AllByRecursion (IsValid texts)) rows
