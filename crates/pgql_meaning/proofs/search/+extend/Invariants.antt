use Rattle.std.proofs.Common.{◌≡◌, ◌++◌, length}
use Rattle.pgql_meaning.specs.Answer.{shown}
use Rattle.pgql_meaning.specs.Assignments.{ranges_of}
use Rattle.pgql_meaning.specs.Fits.{fits}
use Rattle.pgql_meaning.proofs.Extensions.{by_numbers}
use Rattle.pgql_meaning.proofs.search.+extend.Given as goal

abbrev pub decreases-extend : goal.decreases-extend
decreases-extend l = length l.variables.now

-- the matches of the numbers so far were added
abbrev pub invariant-loop-number : goal.invariant-loop-number
invariant-loop-number l =
    (l.numbers.items ≡ l.fn.numbers.items)
    × (l.found.matches.items ≡ l.fn.found.matches.items ++ by_numbers (shown l.texts l.graph l.query) (fits l.texts l.graph l.query) l.fn.numbers.items (ranges_of l.graph l.others) l.number)
