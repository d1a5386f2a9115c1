use Rattle.std.proofs.Common.{◌≡◌, ◌+◌, ◌≤◌, length}
use Rattle.pgql_lexer.specs.Fronts.{comment_end}
use Rattle.pgql_lexer.proofs.fronts.comment_end.Given as goal

abbrev pub invariant-loop-content : goal.invariant-loop-content
invariant-loop-content l = record {
  goes_on : comment_end l.place l.content ≡ comment_end 2 l.initial.content;
  left : l.place + length l.content ≡ length l.initial.content + 2;
  begun : 2 ≤ l.place;
}

abbrev pub decreases-loop-content : goal.decreases-loop-content
decreases-loop-content l = length l.content
