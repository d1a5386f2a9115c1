use Rattle.std.proofs.Common.{◌≡◌, ℕ, ◌≤◌, length}
use Rattle.pgql_lexemes.specs.Lists.{many, many_from}
use Rattle.pgql_syntax.specs.Patterns.{read_step, begins_edge}
use Rattle.pgql_syntax.proofs.pattern.steps.Given as goal

abbrev pub invariant-steps : goal.invariant-steps
invariant-steps l = (n : ℕ) × (length l.input ≤ n) × (many read_step begins_edge l.fn.input ≡ many_from read_step begins_edge n l.found l.input)

abbrev pub decreases-steps : goal.decreases-steps
decreases-steps l = length l.input
