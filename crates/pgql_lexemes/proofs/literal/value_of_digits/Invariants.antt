use Rattle.std.proofs.Common.{◌≡◌, length}
use Rattle.pgql_lexer.specs.Fronts.{value_after}
use Rattle.pgql_lexemes.proofs.literal.value_of_digits.Given as goal

abbrev pub invariant-loop-rest : goal.invariant-loop-rest
invariant-loop-rest l = value_after 0 l.digits ≡ value_after l.value l.rest

abbrev pub decreases-loop-rest : goal.decreases-loop-rest
decreases-loop-rest l = length l.rest
