use Rattle.std.proofs.Common.{length}
use Rattle.std.specs.Prelude.{sum}
use Rattle.pattern_scope.specs.Joined.{AreJoinedSoFar}
use Rattle.pattern_scope.proofs.joined.join.Given as goal

abbrev pub invariant-rounds : goal.invariant-rounds
invariant-rounds l = AreJoinedSoFar (length l.initial.parents) l.links l.parents

abbrev pub decreases-rounds : goal.decreases-rounds
decreases-rounds l = sum l.parents
