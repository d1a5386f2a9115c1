use Rattle.std.proofs.Common.{◌≡◌, ◌++◌, length, false}
use Rattle.pgql_lexemes.specs.Lexemes.{undoubled}
use Rattle.pgql_lexemes.proofs.literal.undoubled.Given as goal

abbrev pub invariant-loop-plain : goal.invariant-loop-plain
invariant-loop-plain l = undoubled false l.content ≡ l.found.items ++ undoubled false l.rest

abbrev pub decreases-loop-plain : goal.decreases-loop-plain
decreases-loop-plain l = length l.rest
