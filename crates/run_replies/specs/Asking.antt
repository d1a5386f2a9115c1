-- What is asked of queries, and over which graph.
use Rattle.std.specs.Prelude.{◌≡◌, ℕ, Bool, List}
use Rattle.cli_words.specs.declared.command.Command.{Command}
use Rattle.cli_words.specs.declared.command.Command.TheVariants as command
use Rattle.graph_tables.specs.Graph.{PropertyGraph}
use Rattle.query_replies.specs.Asked.{IsMeant, answering}
use Rattle.query_replies.specs.Replies.{AreAnswers}
use Rattle.query_replies.specs.declared.answers.Asked.{Asked}
use Rattle.query_replies.specs.declared.answers.Asked.TheVariants.{Plan, Rows}
use Rattle.serial_run.specs.Engines.{ArePartsOf}
use Rattle.run_replies.specs.Jobs.{schema_of, without_texts}
use Rattle.run_replies.specs.declared.answer.Loaded.{Loaded}

-- The command has its queries answered or planned.
abbrev pub IsAnswering : Command → Type 0
IsAnswering command.Run = Unit {0}
IsAnswering command.Plan = Unit {0}
IsAnswering other = ⊥

-- The command asks that of queries: `plan` their plans, and any other their rows.
abbrev pub Asks : Command → Asked → Type 0
Asks command.Plan Plan = Unit {0}
Asks command.Plan (Rows engine) = ⊥
Asks other Plan = ⊥
Asks other (Rows engine) = Unit {0}

-- Where rows are asked for, the parts are those of the graph.
abbrev pub GoesOver : PropertyGraph → Asked → Type 0
GoesOver graph (Rows engine) = ArePartsOf graph engine.shape.machines engine.parts
GoesOver graph Plan = Unit {0}

-- Rows are asked for, and the parts are those of the graph.
abbrev pub AsksRowsOver : PropertyGraph → Asked → Type 0
AsksRowsOver graph (Rows engine) = ArePartsOf graph engine.shape.machines engine.parts
AsksRowsOver graph Plan = ⊥

pub record AsksOver (asking : Command) (graph : PropertyGraph) (asked : Asked) : Type 0 where
  pub asks : Asks asking asked
  pub over : GoesOver graph asked

-- That is what the queries of a command are answered over, where this graph was loaded.
pub record IsLoadedOf (asking : Command) (graph : PropertyGraph) (loaded : Loaded) : Type 0 where
  pub asks : Asks asking loaded.asked
  pub schema_is : loaded.schema ≡ schema_of graph
  pub texts_are : loaded.texts ≡ graph.texts
  pub meant : IsMeant loaded.texts loaded.schema (without_texts graph) loaded.asked

-- These are the replies to the queries that stand at these places of a file.
abbrev pub IsAnswered : PropertyGraph → Loaded → List ℕ → List (ℕ × ℕ) → List (List ℕ) → Bool → Type 0
IsAnswered graph loaded file places replies refused =
    (texts : List (List ℕ)) × AreAnswers (answering graph loaded.asked) loaded.schema file 1 places loaded.texts texts replies refused
