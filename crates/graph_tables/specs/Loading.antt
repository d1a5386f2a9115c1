-- A graph that is being loaded.
use Rattle.std.specs.Prelude.{◌≡◌, ℕ, ◌+◌, ◌<◌, ◌≤◌, ◌^◌, List, [], ◌∷◌, length}
use Rattle.std.specs.List.{AllByRecursion}
use Rattle.element_store.specs.Elements.{Element, Filled}
use Rattle.graph_tables.specs.Graph.{Edge, EndsIn, IsWhole, PropertyGraph, cells_made}
use Rattle.graph_tables.specs.Limits.{most_cells, most_edges, most_vertices}
use Rattle.graph_tables.specs.Properties.{AreTyped}
use Rattle.graph_tables.specs.declared.loading.Ends.{Ends}
use Rattle.graph_tables.specs.declared.loading.Loading.{Loading}
use Rattle.graph_tables.specs.declared.element_kind.ElementKind.{ElementKind}
use Rattle.graph_tables.specs.declared.element_kind.ElementKind.TheVariants as element

-- edges, from what they have besides their ends and the ends beside them
abbrev pub edges_with : List Element → List Ends → List Edge
edges_with [] ends = []
edges_with (e ∷ es) [] = []
edges_with (e ∷ es) (ends ∷ rest) =
    record { key = e.key; label = e.label; source = ends.source; target = ends.target; values = e.values } ∷ edges_with es rest

-- the graph so far
abbrev pub graph_of : Loading → PropertyGraph
graph_of l = record {
  vertices = l.vertices.elements;
  edges = edges_with l.edges.elements l.ends.items;
  texts = l.texts;
  vertex_properties = l.vertex_properties;
  edge_properties = l.edge_properties;
}

-- the elements of a kind, and what the table of them that grows says of its rows
abbrev pub filled_of : ElementKind → Loading → Filled
filled_of element.Vertex l = l.vertices
filled_of element.Edge l = l.edges

-- how many tables were begun
abbrev pub tables_in : Loading → ℕ
tables_in l = l.vertices.tables + l.edges.tables

-- The label of the table that grows is one of the texts.
abbrev pub LabelIn : List (List ℕ) → Filled → Type 0
LabelIn texts f = 0 < f.tables → f.label < length texts

-- The graph so far is whole and keeps within the limits, the columns that grow have their properties' kinds, and the texts
-- are no more than cells and tables.
pub record IsSound (l : Loading) : Type 0 where
  pub whole : IsWhole (graph_of l)
  pub ends_beside : length l.ends.items ≡ length l.edges.elements
  pub vertex_label : LabelIn l.texts l.vertices
  pub edge_label : LabelIn l.texts l.edges
  pub vertex_columns : AreTyped l.vertex_properties l.vertices.columns
  pub edge_columns : AreTyped l.edge_properties l.edges.columns
  pub few_vertices : length l.vertices.elements ≤ most_vertices
  pub few_edges : length l.edges.elements ≤ most_edges
  pub few_cells : cells_made (graph_of l) ≤ most_cells
  pub few_texts : length l.texts ≤ cells_made (graph_of l) + tables_in l

-- Tables and properties are as they were.
pub record KeepsTables (old new : Loading) : Type 0 where
  pub vertex_tables : new.vertices.tables ≡ old.vertices.tables
  pub vertex_label : new.vertices.label ≡ old.vertices.label
  pub vertex_columns : new.vertices.columns ≡ old.vertices.columns
  pub edge_tables : new.edges.tables ≡ old.edges.tables
  pub edge_label : new.edges.label ≡ old.edges.label
  pub edge_columns : new.edges.columns ≡ old.edges.columns
  pub vertex_properties : new.vertex_properties ≡ old.vertex_properties
  pub edge_properties : new.edge_properties ≡ old.edge_properties

-- how many properties there are
abbrev pub properties_in : Loading → ℕ
properties_in l = length l.vertex_properties + length l.edge_properties

-- What every graph keeps, its texts aside: edges end at vertices, and numbers fit 32 bits.
pub record IsReadable (l : Loading) : Type 0 where
  pub ends_beside : length l.ends.items ≡ length l.edges.elements
  pub ends : AllByRecursion (EndsIn l.vertices.elements) (edges_with l.edges.elements l.ends.items)
  pub few_vertices : length l.vertices.elements < 2 ^ 32
  pub few_edges : length l.edges.elements < 2 ^ 32

-- What a bare graph keeps: ends beside its edges, which are vertices, and numbers that fit 32 bits.
pub record IsBare (vertices edges : List Element) (ends : List Ends) : Type 0 where
  pub ends_beside : length ends ≡ length edges
  pub at_vertices : AllByRecursion (EndsIn vertices) (edges_with edges ends)
  pub few_vertices : length vertices < 2 ^ 32
  pub few_edges : length edges < 2 ^ 32
