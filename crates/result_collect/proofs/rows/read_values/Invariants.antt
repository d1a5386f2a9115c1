use Rattle.std.proofs.Common.{◌≡◌, ◌++◌, ◌+◌, length}
use Rattle.result_collect.specs.Contexts.{values_from}
use Rattle.result_collect.proofs.rows.read_values.Given as goal

-- what is left, after the values so far, gives all of them
abbrev pub invariant-loop-rest : goal.invariant-loop-rest
invariant-loop-rest l = record {
  so_far : l.values.items ++ values_from l.context.words l.variables l.place l.rest ≡ values_from l.context.words l.variables 0 l.captures;
  left : l.place + length l.rest ≡ length l.captures;
}

abbrev pub decreases-loop-rest : goal.decreases-loop-rest
decreases-loop-rest l = length l.rest
