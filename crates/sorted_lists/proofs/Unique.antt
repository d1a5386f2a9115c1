-- A stable sort gives the one list in order.
use Rattle.std.proofs.Common.{◌≡◌, ◌&&◌, not, Bool, true, false, cond, List, [], ◌∷◌, refl, sym, ap, arith, subst, ◌∙◌}
use Rattle.std.specs.Cmp.{IsStrictWeakOrder}
use Rattle.std.specs.List.{AllByRecursion, filter}
use Rattle.std.specs.List.Sorted.{IsSortedBy, IsStableBy, ties}
use Rattle.std.proofs.lemmas.Grind.{common_steps}
use Rattle.sorted_lists.specs.Sorted.{placed, in_order}
use Rattle.sorted_lists.proofs.Ascending.{Ascends, Ascends-in_order, Ascends-sorted}

-- ---- putting an item in its place keeps the order of ties

swapped : {X : Type 0} (a b : Bool) (x y : X) (rest : List X) → (a && b) ≡ false → cond b (y ∷ cond a (x ∷ rest) rest) (cond a (x ∷ rest) rest) ≡ cond a (x ∷ cond b (y ∷ rest) rest) (cond b (y ∷ rest) rest)
swapped true true x y rest apart = absurd cc
swapped true false x y rest apart = refl
swapped false b x y rest apart = refl

by_tests : (zx xz zy yz yx : Bool) → (yz ≡ false → zx ≡ false → yx ≡ false) → yx ≡ true → ((not zx && not xz) && (not zy && not yz)) ≡ false
by_tests true xz zy yz yx chain less = refl
by_tests false true zy yz yx chain less = refl
by_tests false false true yz yx chain less = refl
by_tests false false false true yx chain less = refl
by_tests false false false false yx chain less = let more = chain refl refl in absurd (cc (more, less))

-- of two items of which one comes before the other, not both tie with a third
one_ties : {X : Type 0} (before : X → X → Bool) → IsStrictWeakOrder before → (x y z : X) → before y x ≡ true → (ties before z x && ties before z y) ≡ false
one_ties before order x y z less = by_tests (before z x) (before x z) (before z y) (before y z) (before y x) (order.chain y z x) less

filter-placed_by : {X : Type 0} (before : X → X → Bool) → IsStrictWeakOrder before → (z x y : X) (ys : List X) (b : Bool) → before y x ≡ b
    → filter (ties before z) (placed before x ys) ≡ filter (ties before z) (x ∷ ys)
    → filter (ties before z) (cond b (y ∷ placed before x ys) (x ∷ y ∷ ys)) ≡ filter (ties before z) (x ∷ y ∷ ys)
filter-placed_by before order z x y ys true is same =
    ap (λ rest. cond (ties before z y) (y ∷ rest) rest) same ∙ swapped (ties before z x) (ties before z y) x y (filter (ties before z) ys) (one_ties before order x y z is)
filter-placed_by before order z x y ys false is same = refl

filter-placed : {X : Type 0} (before : X → X → Bool) → IsStrictWeakOrder before → (z x : X) (ys : List X)
    → filter (ties before z) (placed before x ys) ≡ filter (ties before z) (x ∷ ys)
filter-placed before order z x [] = refl
filter-placed before order z x (y ∷ ys) = filter-placed_by before order z x y ys (before y x) refl (filter-placed before order z x ys)

pub in_order-stable : {X : Type 0} (before : X → X → Bool) → IsStrictWeakOrder before → (xs : List X) → IsStableBy before xs (in_order before xs)
in_order-stable before order [] z = refl
in_order-stable before order (x ∷ xs) z =
    filter-placed before order z x (in_order before xs) ∙ ap (λ rest. cond (ties before z x) (x ∷ rest) rest) (in_order-stable before order xs z)

-- ---- one list is in order and keeps the order of ties

ties-itself : {X : Type 0} (before : X → X → Bool) → IsStrictWeakOrder before → (x : X) → ties before x x ≡ true
ties-itself before order x = grind (arith, common_steps, order.one_way x x)

-- what is after in an ascending list
none_before : {X : Type 0} (before : X → X → Bool) (x : X) (keep : X → Bool) (ys : List X) → AllByRecursion (λ y. before y x ≡ false) ys
    → AllByRecursion (λ y. before y x ≡ false) (filter keep ys)
none_before before x keep [] behind = tt
none_before before x keep (y ∷ ys) behind =
    elim (keep y) as (λ b. AllByRecursion (λ z. before z x ≡ false) (cond b (y ∷ filter keep ys) (filter keep ys)))
    [ true ↦ (behind.0, none_before before x keep ys behind.1) | false ↦ none_before before x keep ys behind.1 ]

first_of : {X : Type 0} (P : X → Type 0) (x : X) (xs ys : List X) → ys ≡ x ∷ xs → AllByRecursion P ys → P x
first_of P x xs ys is all = (let here : AllByRecursion P (x ∷ xs) = subst (AllByRecursion P) is all in here).0

-- the items that tie with one of a list that has it at its front
front_ties : {X : Type 0} (before : X → X → Bool) → IsStrictWeakOrder before → (x : X) (xs : List X) → filter (ties before x) (x ∷ xs) ≡ x ∷ filter (ties before x) xs
front_ties before order x xs = rw (ties-itself before order x) refl

irreflexive : {X : Type 0} (before : X → X → Bool) → IsStrictWeakOrder before → (x : X) → before x x ≡ false
irreflexive before order x = grind (arith, common_steps, order.one_way x x)

-- the first of one list doesn't come before the first of the other
not_before : {X : Type 0} (before : X → X → Bool) → IsStrictWeakOrder before → (x y : X) (xs ys : List X)
    → filter (ties before x) (x ∷ xs) ≡ filter (ties before x) (y ∷ ys) → Ascends before (y ∷ ys) → before x y ≡ false
not_before before order x y xs ys same ascends =
    first_of (λ w. before w y ≡ false) x (filter (ties before x) xs) (filter (ties before x) (y ∷ ys)) (sym same ∙ front_ties before order x xs)
    (none_before before y (ties before x) (y ∷ ys) (irreflexive before order y, ascends.0))

rests : {X : Type 0} (b : Bool) (x : X) (xs ys : List X) → cond b (x ∷ xs) xs ≡ cond b (x ∷ ys) ys → xs ≡ ys
rests true x xs ys same = cc
rests false x xs ys same = same

pub unique : {X : Type 0} (before : X → X → Bool) → IsStrictWeakOrder before → (xs ys : List X) → Ascends before xs → Ascends before ys
    → ((z : X) → filter (ties before z) xs ≡ filter (ties before z) ys) → xs ≡ ys
unique before order [] [] up up' same = refl
unique before order [] (y ∷ ys) up up' same = let none = same y ∙ front_ties before order y ys in absurd (cc none)
unique before order (x ∷ xs) [] up up' same = let none = sym (same x) ∙ front_ties before order x xs in absurd (cc none)
unique before order (x ∷ xs) (y ∷ ys) up up' same =
    let p = not_before before order x y xs ys (same x) up' in
    let q = not_before before order y x ys xs (sym (same y)) up in
    let tie : ties before x y ≡ true = rw (p, q) refl in
    let fronts : x ∷ filter (ties before x) xs ≡ y ∷ filter (ties before x) ys = sym (front_ties before order x xs) ∙ same x ∙ rw tie refl in
    let first : x ≡ y = cc in
    let rest : xs ≡ ys = unique before order xs ys up.1 up'.1 (λ z. rests (ties before z x) x (filter (ties before z) xs) (filter (ties before z) ys)
    (subst (λ w. filter (ties before z) (x ∷ xs) ≡ filter (ties before z) (w ∷ ys)) (sym first) (same z))) in
    cc

-- what is sorted, with ties as they stood, is the list in order
pub sorted-in_order : {X : Type 0} (before : X → X → Bool) → IsStrictWeakOrder before → (xs ys : List X) → IsSortedBy before ys → IsStableBy before xs ys
    → ys ≡ in_order before xs
sorted-in_order before order xs ys sorted stable =
    unique before order ys (in_order before xs) (Ascends-sorted before order ys sorted) (Ascends-in_order before order xs)
    (λ z. stable z ∙ sym (in_order-stable before order xs z))
