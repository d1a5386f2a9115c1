-- Lists in order.
use denote.Ref.{Bor}
use denote.Param.Members.{Mut}
use Rattle.std.specs.Prelude.{◌≡◌, Bool, List, [], ◌∷◌, if◌then◌else◌}
use Rattle.std.specs.Cmp.{IsTotalOrder}
use Rattle.std.specs.Fn.{Called}
use Rattle.std.specs.Ordering.{is_lt}
use Rattle.std.specs.declared.cmp.Ordering.{Ordering}

-- the item in its place of a list in order: after those that come before it
abbrev pub placed : {X : Type 0} → (X → X → Bool) → X → List X → List X
placed before x [] = x ∷ []
placed before x (y ∷ ys) = if before y x then y ∷ placed before x ys else x ∷ y ∷ ys

-- the list in order; where neither of two items comes before the other, they stand as they stood
abbrev pub in_order : {X : Type 0} → (X → X → Bool) → List X → List X
in_order before [] = []
in_order before (x ∷ xs) = placed before x (in_order before xs)

-- by an order
abbrev pub before_by : {X : Type 0} → (X → X → Ordering) → X → X → Bool
before_by order a b = is_lt (order a b)

-- Where each call of the closure answers by a total order, and leaves the closure as it was, the new list is the old one in
-- that order.
abbrev pub SortsBy : {F X : Type 0} → Mut F (Bor X × (Bor X × Unit {0})) Ordering → F → List X → List X → Type 0
SortsBy {F} {X} calls compare old new =
    (order : X → X → Ordering) → IsTotalOrder order
    → ((pair : Bor X × (Bor X × Unit {0})) (answer : Ordering) (after : F) → Called calls compare pair answer after
    → (answer ≡ order pair.0.now pair.1.0.now) × (after ≡ compare))
    → new ≡ in_order (before_by order) old
