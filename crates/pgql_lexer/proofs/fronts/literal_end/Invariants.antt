use Rattle.std.proofs.Common.{◌≡◌, ◌+◌, ◌≤◌, length, false}
use Rattle.pgql_lexer.specs.Fronts.{literal_end}
use Rattle.pgql_lexer.proofs.fronts.literal_end.Given as goal

abbrev pub invariant-loop-content : goal.invariant-loop-content
invariant-loop-content l = record {
  goes_on : literal_end l.is_second l.place l.content ≡ literal_end false 1 l.initial.content;
  left : l.place + length l.content ≡ length l.initial.content + 1;
  begun : 1 ≤ l.place;
}

abbrev pub decreases-loop-content : goal.decreases-loop-content
decreases-loop-content l = length l.content
