use Rattle.std.proofs.Common.{◌≡◌, ◌<◌, ◌≤◌, ℕ, Bool, length, take}
use Rattle.std.specs.Prelude.{All, sum}
use Rattle.std.specs.Bool.{OnFalse, OnTrue}
use Rattle.pattern_scope.specs.Joined.{Agree, HasBothOrNeither, IsFlat, IsForest, Respects}
use Rattle.pattern_scope.proofs.joined.unite_all.Given as goal

abbrev pub invariant-loop-left : goal.invariant-loop-left
invariant-loop-left l = record {
  as_many : length l.parents ≡ length l.initial.parents;
  forest : IsForest l.parents;
  respected : (set : ℕ → Bool) → Respects set l.initial.parents → HasBothOrNeither set l.links → Respects set l.parents;
  no_more : sum l.parents ≤ sum l.initial.parents;
  fewer : OnTrue l.united (sum l.parents < sum l.initial.parents);
  known : OnFalse l.united (IsFlat l.initial.parents → (l.parents ≡ l.initial.parents) × All (Agree l.initial.parents) (take l.left-index l.links));
}
