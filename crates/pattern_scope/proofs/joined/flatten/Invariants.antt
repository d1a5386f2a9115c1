use Rattle.std.proofs.Common.{◌≡◌, ◌<◌, ℕ}
use Rattle.std.specs.Prelude.{slice_index}
use Rattle.pattern_scope.specs.Joined.{IsNearer}
use Rattle.pattern_scope.proofs.joined.flatten.Given as goal

abbrev pub invariant-loop-at : goal.invariant-loop-at
invariant-loop-at l = record {
  nearer : IsNearer l.initial.parents l.parents;
  flat : (k : ℕ) → k < l.at → slice_index l.parents (slice_index l.parents k) ≡ slice_index l.parents k;
}
