-- What the definitions of replies come to.
use Rattle.std.specs.Prelude.{◌≡◌, ℕ, Bool, List}
use Rattle.graph_tables.specs.Properties.{SchemaLists}
use Rattle.query_replies.specs.Replies.{AreAnswers, Answering}

-- The queries of a file have one list of replies: two that both answer them are the same, and so are the texts afterwards, and
-- whether one of the queries is refused.
abbrev pub AnswersAreOne : Type 0
AnswersAreOne = (answering : Answering) (schema : SchemaLists) (file : List ℕ) (number : ℕ) (pieces : List (ℕ × ℕ)) (old new new' replies replies' : List (List ℕ)) (refused refused' : Bool)
    → AreAnswers answering schema file number pieces old new replies refused → AreAnswers answering schema file number pieces old new' replies' refused'
    → (new ≡ new') × (replies ≡ replies') × (refused ≡ refused')
