use Rattle.std.proofs.Common.{◌≡◌, ◌++◌, drop}
use Rattle.typed_expr.specs.Typed as spec
use Rattle.typed_expr.proofs.build.labels_of.Given as goal

abbrev pub invariant-loop-of : goal.invariant-loop-of
invariant-loop-of l = l.lists ++ spec.labels_of l.number (drop l.of-index l.labels) ≡ l.initial.lists ++ spec.labels_of l.number l.labels
