-- What is told of a generated graph.
use Rattle.std.specs.Prelude.{◌≡◌, ℕ, ◌-◌, ◌==◌, Bool, List, [], ◌∷◌, ◌++◌, codes, length, map, slice_index_or, Result, Ok, if◌then◌else◌}
use Rattle.std.specs.Fmt.{decimal}
use Rattle.adfs_base.specs.declared.value.Value.{Value}
use Rattle.graph_tables.specs.Graph.{PropertyGraph}
use Rattle.graph_tables.specs.declared.faults.TableFault.{TableFault}
use Rattle.graph_tables.specs.Properties.{SchemaLists}
use Rattle.pgql_meaning.specs.Answer.{answer_of}
use Rattle.query_replies.specs.Replies.{Answering, IsAnswer}
use Rattle.query_replies.specs.declared.answers.Replies.{Replies}
use Rattle.result_collect.specs.Replies.{row_text}

-- the query: paths of two edges along which the weights rise
abbrev pub query_text : List ℕ
query_text = codes "SELECT id(a), id(b), id(c) MATCH (a:node)-[e:link]->(b:node)-[f:link]->(c:node) WHERE a.w < b.w AND b.w < c.w"

-- the first and the last row, where there are rows
abbrev pub ends_text : List (List ℕ) → List (List Value) → List ℕ
ends_text texts rows =
    if length rows == 0 then []
    else codes "first " ++ (row_text texts (slice_index_or rows 0 []) ++ (codes "last " ++ row_text texts (slice_index_or rows (length rows - 1) [])))

abbrev pub rows_text : List (List ℕ) → List (List Value) → List ℕ
rows_text texts rows = codes "rows " ++ (decimal (length rows) ++ 10 ∷ ends_text texts rows)

-- what is told of a query's answer over a graph
abbrev pub rows_in_brief : PropertyGraph → Answering
rows_in_brief graph texts number query = rows_text texts (answer_of texts graph query)

abbrev pub made_text : ℕ → ℕ → List ℕ
made_text vertices edges = codes "generated " ++ (decimal vertices ++ (codes " vertices " ++ (decimal edges ++ codes " edges\n")))

-- the graph without the texts and the properties that came with it, and those
abbrev pub bare : PropertyGraph → PropertyGraph
bare graph = record { vertices = graph.vertices; edges = graph.edges; texts = []; vertex_properties = []; edge_properties = [] }

abbrev pub schema_of : PropertyGraph → SchemaLists
schema_of graph = record { vertex = graph.vertex_properties; edge = graph.edge_properties }

-- After the old bytes it is told of that query what its rows over the graph are in brief; or the line by which it is refused.
pub record Brief (graph : PropertyGraph) (old new : List ℕ) (refused : Bool) : Type 0 where
  pub rows : List ℕ
  pub texts : List (List ℕ)
  pub answers : IsAnswer (rows_in_brief (bare graph)) (schema_of graph) 1 0 query_text graph.texts texts rows refused
  pub after : new ≡ old ++ rows

-- One text is put: how many vertices and edges there are, and the rows in brief.
pub record Summarizes (graph : PropertyGraph) (vertices edges : ℕ) (replies : List (List ℕ)) (refused : Bool) : Type 0 where
  pub text : List ℕ
  pub brief : Brief graph (made_text vertices edges) text refused
  pub replies_are : replies ≡ text ∷ []

-- ---- the graph that was made
-- The replies are the summary of the due graph.
abbrev pub Generates : ℕ → ℕ → Result PropertyGraph TableFault → Replies → Type 0
Generates vertices edges due replies =
    (graph : PropertyGraph) × (due ≡ Ok graph) × Summarizes graph vertices edges (map (λ text. text.items) replies.texts.items) replies.refused
