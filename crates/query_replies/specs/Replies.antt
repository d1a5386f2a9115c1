-- What the queries of a file are answered.
use Rattle.std.specs.Prelude.{◌≡◌, ℕ, ◌+◌, ◌-◌, ◌||◌, Bool, true, false, List, [], ◌∷◌, drop, take, Result, Ok, Err, is_err}
use Rattle.graph_tables.specs.Graph.{PropertyGraph}
use Rattle.graph_tables.specs.Properties.{SchemaLists}
use Rattle.pgql_meaning.specs.Answer.{answer_of}
use Rattle.pgql_syntax.specs.Places.{IsFault, IsTree}
use Rattle.pgql_syntax.specs.declared.tree.SyntaxFault.{SyntaxFault}
use Rattle.pgql_tree.specs.declared.ast.Ast.{Ast}
use Rattle.result_collect.specs.Refusals.{refusal_text}
use Rattle.result_collect.specs.Replies.{reply_text}
use Rattle.typed_expr.specs.Typed.{typed}
use Rattle.typed_expr.specs.declared.fault.TypeFault.{TypeFault}
use Rattle.typed_query.specs.declared.query.Query.{Query}
use Rattle.stage_plan.specs.PlanText.{plan_text}
use Rattle.stage_plan.specs.Plans.{Course, plan_of, planned}
use Rattle.stage_plan.specs.declared.fault.PlanFault.{PlanFault}
use Rattle.query_replies.specs.Faults.{refusal_of_planning, refusal_of_syntax, refusal_of_typing}

-- what comes of a query's text: it has no tree, its tree means nothing, or it is a query, which may still be too wide
pub data Reading : Type 0 where
  Unread : SyntaxFault → Reading
  Meaningless : Ast → TypeFault → Reading
  Meaningful : Ast → Query → Reading

-- The text, whose first byte is this one of its file, comes to that. The literals of a query are added to the texts.
abbrev pub IsReading : SchemaLists → ℕ → List ℕ → List (List ℕ) → List (List ℕ) → Reading → Type 0
IsReading schema base text old new (Unread e) = IsFault 64 base text e × (new ≡ old)
IsReading schema base text old new (Meaningless tree e) = IsTree 64 base text tree × (typed schema old tree ≡ Err e) × (new ≡ old)
IsReading schema base text old new (Meaningful tree query) = IsTree 64 base text tree × (typed schema old tree ≡ Ok (query, new))

-- what is answered by the texts and by the query of a number
abbrev pub Answering : Type 0
Answering = List (List ℕ) → ℕ → Query → List ℕ

-- the rows of its answer over a graph, or its plan
abbrev pub rows_over : PropertyGraph → Answering
rows_over graph texts number query = reply_text texts number query (answer_of texts graph query)

abbrev pub plan_in_words : Answering
plan_in_words texts number query = plan_text number (plan_of query) query

-- a query that has a plan gets an answer, and one that has none is refused
abbrev pub text_by : List ℕ → ℕ → Result Course PlanFault → List ℕ
text_by answer number (Ok plan) = answer
text_by answer number (Err e) = refusal_text number (refusal_of_planning e)

-- what the query of this number is answered: its refusal, or what is asked of it
abbrev pub text_of : Answering → List (List ℕ) → ℕ → Reading → List ℕ
text_of answering texts number (Unread e) = refusal_text number (refusal_of_syntax e)
text_of answering texts number (Meaningless tree e) = refusal_text number (refusal_of_typing e)
text_of answering texts number (Meaningful tree query) = text_by (answering texts number query) number (planned query)

abbrev pub is_refused : Reading → Bool
is_refused (Unread e) = true
is_refused (Meaningless tree e) = true
is_refused (Meaningful tree query) = is_err (planned query)

-- The query of this number is answered so; the texts are as the first list before, and as the second after it.
pub record IsAnswer (answering : Answering) (schema : SchemaLists) (number base : ℕ) (text : List ℕ) (old new : List (List ℕ)) (reply : List ℕ) (refused : Bool) : Type 0 where
  pub reading : Reading
  pub is_reading : IsReading schema base text old new reading
  pub reply_is : reply ≡ text_of answering new number reading
  pub refused_is : refused ≡ is_refused reading

-- the bytes of a file from one place to another
abbrev pub piece_of : List ℕ → ℕ × ℕ → List ℕ
piece_of file piece = take (piece.1 - piece.0) (drop piece.0 file)

-- The queries that stand at these places of a file, counted from a number, are answered so, one after the other; and
-- whether one of them is refused.
abbrev pub AreAnswers : Answering → SchemaLists → List ℕ → ℕ → List (ℕ × ℕ) → List (List ℕ) → List (List ℕ) → List (List ℕ) → Bool → Type 0
AreAnswers answering schema file number [] old new [] refused = (new ≡ old) × (refused ≡ false)
AreAnswers answering schema file number [] old new (reply ∷ replies) refused = ⊥
AreAnswers answering schema file number (piece ∷ pieces) old new [] refused = ⊥
AreAnswers answering schema file number (piece ∷ pieces) old new (reply ∷ replies) refused =
    (texts : List (List ℕ)) × (here : Bool) × (later : Bool) × IsAnswer answering schema number piece.0 (piece_of file piece) old texts reply here
    × AreAnswers answering schema file (number + 1) pieces texts new replies later × (refused ≡ (here || later))

-- They are answered by their rows, or by their plans.
abbrev pub AreReplies : PropertyGraph → SchemaLists → List ℕ → ℕ → List (ℕ × ℕ) → List (List ℕ) → List (List ℕ) → List (List ℕ) → Bool → Type 0
AreReplies graph schema file number pieces old new replies refused = AreAnswers (rows_over graph) schema file number pieces old new replies refused

abbrev pub ArePlans : SchemaLists → List ℕ → ℕ → List (ℕ × ℕ) → List (List ℕ) → List (List ℕ) → List (List ℕ) → Bool → Type 0
ArePlans schema file number pieces old new plans refused = AreAnswers plan_in_words schema file number pieces old new plans refused
