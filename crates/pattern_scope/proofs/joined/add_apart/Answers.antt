use Rattle.std.proofs.Common.{arith}
use Rattle.pattern_scope.proofs.Joins.{disconnected-step}
use Rattle.pattern_scope.proofs.joined.add_apart.Goals as goal

pub loop-number-preserved : goal.loop-number-preserved
loop-number-preserved c = λ links are.
    disconnected-step links c.args.vertices.now c.loop-number.number-index (0, 0) _ _ _ (omega arith) (c.loop-number.invariant links are) (c.in_ok-add_if_apart.ensures links are)
