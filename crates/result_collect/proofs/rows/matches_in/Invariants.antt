use Rattle.std.proofs.Common.{◌≡◌, ◌++◌, length, map}
use Rattle.result_collect.specs.Contexts.{shown_in}
use Rattle.result_collect.proofs.rows.matches_in.Given as goal

-- what is left, after the matches so far, gives all of them
abbrev pub invariant-loop-rest : goal.invariant-loop-rest
invariant-loop-rest l = l.matches.items ++ map (shown_in l.texts l.query) l.rest ≡ map (shown_in l.texts l.query) l.rows

abbrev pub decreases-loop-rest : goal.decreases-loop-rest
decreases-loop-rest l = length l.rest
