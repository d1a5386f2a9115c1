use Rattle.std.proofs.Common.{rules, arith}
use Rattle.pattern_scope.proofs.Lists.{range-push}
use Rattle.pattern_scope.proofs.joined.alone.Goals as goal

pub loop-number-preserved : goal.loop-number-preserved
loop-number-preserved c = range-push c.args.count c.loop-number.number c.loop-number.parents.items c.push.new.self.items (search (rules, arith)) c.loop-number.invariant (search rules)
