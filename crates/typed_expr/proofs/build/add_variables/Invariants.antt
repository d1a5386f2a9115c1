use Rattle.std.proofs.Common.{◌≡◌, ◌++◌, ◌+◌, length}
use Rattle.typed_expr.specs.Typed as spec
use Rattle.typed_expr.proofs.build.add_variables.Given as goal

abbrev pub invariant-loop-rest : goal.invariant-loop-rest
invariant-loop-rest l = record {
  so_far : l.variables ++ spec.variables_from l.number l.scope.labels l.rest ≡ l.initial.variables ++ spec.variables_from 0 l.scope.labels l.scope.variables;
  left : l.number + length l.rest ≡ length l.scope.variables;
}

abbrev pub decreases-loop-rest : goal.decreases-loop-rest
decreases-loop-rest l = length l.rest
