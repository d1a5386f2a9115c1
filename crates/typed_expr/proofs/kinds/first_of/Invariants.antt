use Rattle.std.proofs.Common.{◌≡◌, drop}
use Rattle.std.specs.Prelude.{fold, None}
use Rattle.typed_expr.specs.Faults.{earlier_of}
use Rattle.typed_expr.proofs.kinds.first_of.Given as goal

abbrev pub invariant-loop-fault : goal.invariant-loop-fault
invariant-loop-fault l = fold earlier_of l.first (drop l.fault-index l.all) ≡ fold earlier_of None l.all
