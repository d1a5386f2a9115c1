use Rattle.std.proofs.Common.{◌≡◌, map}
use Rattle.std.specs.List.{range_with_len}
use Rattle.match_context.specs.Words.{number_in}
use Rattle.result_collect.proofs.rows.numbers_in.Given as goal

-- the numbers of the variables so far
abbrev pub invariant-loop-variable : goal.invariant-loop-variable
invariant-loop-variable l = l.numbers.items ≡ map (number_in l.context.words) (range_with_len 0 l.variable)
