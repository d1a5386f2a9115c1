use Rattle.std.proofs.Common.{◌≡◌, length}
use Rattle.answer_rows.specs.Orders as orders
use Rattle.answer_rows.proofs.compare.compare_rows.Given as goal

-- what is left decides
abbrev pub invariant-loop-xs : goal.invariant-loop-xs
invariant-loop-xs l = orders.row_order l.texts l.a l.b ≡ orders.row_order l.texts l.xs l.ys

abbrev pub decreases-loop-xs : goal.decreases-loop-xs
decreases-loop-xs l = length l.xs
