use Rattle.std.proofs.Common.{◌≤◌, take}
use Rattle.std.specs.Prelude.{All}
use Rattle.pattern_scope.proofs.joined.most_of.Given as goal

abbrev pub invariant-loop-number : goal.invariant-loop-number
invariant-loop-number l = All (λ vertex. vertex.0 ≤ l.most) (take l.number-index l.vertices)
