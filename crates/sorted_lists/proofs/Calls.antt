-- What each call of a closure answers, from what one call does.
use Rattle.std.proofs.Common.{◌≡◌, List, [], ◌∷◌, refl, ap, subst}
use denote.Ref.{Bor}
use denote.Param.Members.{Mut}
use Rattle.std.specs.Fn.{Called, ComparesAs, ReturnsEach}
use Rattle.std.specs.Ordering.{is_lt}
use Rattle.std.specs.declared.cmp.Ordering.{Ordering}
use Rattle.sorted_lists.specs.Sorted.{before_by}

module _ {F X : Type 0} (calls : Mut F (Bor X × (Bor X × Unit {0})) Ordering) (compare : F) (order : X → X → Ordering)
    (each : (pair : Bor X × (Bor X × Unit {0})) (answer : Ordering) (after : F) → Called calls compare pair answer after
    → (answer ≡ order pair.0.now pair.1.0.now) × (after ≡ compare)) where
  answers_each : (pairs : List (Bor X × (Bor X × Unit {0}))) (f : F) → f ≡ compare
      → ReturnsEach calls (λ a r. is_lt r ≡ before_by order a.0.now a.1.0.now) f pairs
  answers_each [] f same = tt
  answers_each (pair ∷ pairs) f same = λ answer after called.
      let here = each pair answer after (subst (λ g. Called calls g pair answer after) same called) in
      (ap is_lt here.0, answers_each pairs after here.1)

  -- a closure that answers by an order compares as that order
  pub ComparesAs-order : ComparesAs calls (before_by order) compare
  ComparesAs-order = record { at = λ pairs. answers_each pairs compare refl }
