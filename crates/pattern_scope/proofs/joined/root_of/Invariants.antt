use Rattle.pattern_scope.proofs.Forests.{IsReached}
use Rattle.pattern_scope.proofs.joined.root_of.Given as goal

abbrev pub invariant-loop-parents : goal.invariant-loop-parents
invariant-loop-parents l = IsReached l.initial.parents l.parents l.number l.at

abbrev pub decreases-loop-parents : goal.decreases-loop-parents
decreases-loop-parents l = l.at
