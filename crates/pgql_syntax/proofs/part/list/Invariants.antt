use Rattle.std.proofs.Common.{◌≡◌, ℕ, ◌≤◌, length}
use Rattle.pgql_lexemes.specs.Lists.{separated, separated_from}
use Rattle.pgql_syntax.proofs.part.list.Given as goal

abbrev pub invariant-items : goal.invariant-items
invariant-items g l = (n : ℕ) × (length l.input ≤ n) × (separated g.T.Part.reading l.mark l.fn.input ≡ separated_from g.T.Part.reading l.mark n l.found l.input)

abbrev pub decreases-items : goal.decreases-items
decreases-items g l = length l.input
