use Rattle.std.proofs.Common.{◌≡◌, ◌≤◌, length}
use Rattle.pgql_lexer.specs.Fronts.{value_after, most_number}
use Rattle.pgql_lexer.proofs.fronts.is_wide.Given as goal

abbrev pub invariant-loop-rest : goal.invariant-loop-rest
invariant-loop-rest l = record {
  goes_on : value_after l.value l.rest ≡ value_after 0 l.digits;
  narrow : l.value ≤ most_number;
}

abbrev pub decreases-loop-rest : goal.decreases-loop-rest
decreases-loop-rest l = length l.rest
