use Rattle.std.proofs.Common.{◌≡◌, ◌++◌, ℕ, List, length, drop}
use Rattle.pattern_scope.specs.Joined.{AreGroups, disconnected}
use Rattle.pattern_scope.proofs.joined.add_apart.Given as goal

abbrev pub invariant-loop-number : goal.invariant-loop-number
invariant-loop-number l = (links : List (ℕ × ℕ)) → AreGroups (length l.groups) links l.groups
    → l.faults ++ disconnected links (drop l.number-index l.vertices) ≡ l.initial.faults ++ disconnected links l.vertices
