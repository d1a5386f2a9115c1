use Rattle.std.proofs.Common.{◌≤◌, take}
use Rattle.std.specs.Prelude.{All}
use Rattle.pattern_scope.proofs.joined.most_linked.Given as goal

abbrev pub invariant-loop-left : goal.invariant-loop-left
invariant-loop-left l = All (λ link. (link.0 ≤ l.most) × (link.1 ≤ l.most)) (take l.left-index l.links)
