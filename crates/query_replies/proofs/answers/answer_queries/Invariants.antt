use Rattle.std.proofs.Common.{◌≡◌, ◌+◌, ◌++◌, ◌||◌, ℕ, All, Bool, List, length, map}
use Rattle.graph_tables.specs.Graph.{PropertyGraph}
use Rattle.pgql_lexer.specs.Places.{LiesBetween}
use Rattle.query_replies.specs.Asked.{IsMeant, IsMeantOfSome, answering}
use Rattle.query_replies.specs.Replies.{AreAnswers}
use Rattle.query_replies.proofs.answers.answer_queries.Given as goal

-- whatever the queries that are left are answered, all are answered so after the replies so far
abbrev pub invariant-loop-piece : goal.invariant-loop-piece
invariant-loop-piece l = record {
  goes_on : (graph : PropertyGraph) → IsMeant l.initial.texts l.schema graph l.initial.asked
      → (new later : List (List ℕ)) (refused : Bool) → AreAnswers (answering graph l.initial.asked) l.schema l.file l.number l.rest l.texts new later refused
      → AreAnswers (answering graph l.initial.asked) l.schema l.file 1 l.pieces l.initial.texts new (map (λ text. text.items) l.found.items ++ later) (l.one_refused || refused);
  meant : (graph : PropertyGraph) → IsMeant l.initial.texts l.schema graph l.initial.asked → IsMeant l.texts l.schema graph l.asked;
  of_some : IsMeantOfSome l.texts l.schema l.asked;
  same : l.asked ≡ l.initial.asked;
  within : All (LiesBetween 0 (length l.file)) l.rest;
  counted : l.number + length l.rest ≡ 1 + length l.pieces;
}

abbrev pub decreases-loop-piece : goal.decreases-loop-piece
decreases-loop-piece l = length l.rest
