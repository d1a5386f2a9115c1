-- What is asked of each query.
use Rattle.std.specs.Prelude.{ℕ, List}
use Rattle.graph_tables.specs.Graph.{PropertyGraph}
use Rattle.graph_tables.specs.Properties.{SchemaLists}
use Rattle.typed_expr.specs.Captured.{HaveKinds}
use Rattle.typed_query.specs.declared.query.Query.{Query}
use Rattle.serial_run.specs.Engines.{IsOver}
use Rattle.query_replies.specs.Replies.{Answering, plan_in_words, rows_over}
use Rattle.query_replies.specs.declared.answers.Asked.{Asked}
use Rattle.query_replies.specs.declared.answers.Asked.TheVariants.{Plan, Rows}

-- what each query is answered, over the graph whose parts the engine has
abbrev pub answering : PropertyGraph → Asked → Answering
answering graph (Rows engine) = rows_over graph
answering graph Plan = plan_in_words

-- What is asked rests on the parts of the graph, which means something under the texts; a plan rests on no graph.
abbrev pub IsMeant : List (List ℕ) → SchemaLists → PropertyGraph → Asked → Type 0
IsMeant texts schema graph (Rows engine) = IsOver texts schema graph engine
IsMeant texts schema graph Plan = Unit {0}

pub record IsMeantOfSome (texts : List (List ℕ)) (schema : SchemaLists) (asked : Asked) : Type 0 where
  pub graph : PropertyGraph
  pub meant : IsMeant texts schema graph asked

-- A query may be asked where what it captures has the kinds of the schema.
pub record MayBeAsked (texts : List (List ℕ)) (asked : Asked) (query : Query) : Type 0 where
  pub schema : SchemaLists
  pub graph : PropertyGraph
  pub meant : IsMeant texts schema graph asked
  pub kinds : HaveKinds schema query
