use Rattle.std.proofs.Common.{◌≡◌, length}
use Rattle.answer_rows.specs.Orders as orders
use Rattle.answer_rows.proofs.compare.compare_keys.Given as goal

-- what is left decides
abbrev pub invariant-loop-rest : goal.invariant-loop-rest
invariant-loop-rest l = orders.keys_order l.texts l.downs l.a l.b ≡ orders.keys_order l.texts l.rest l.xs l.ys

abbrev pub decreases-loop-rest : goal.decreases-loop-rest
decreases-loop-rest l = length l.rest
