-- Lists that are in order already, and the list that sorting gives.
use Rattle.std.proofs.Common.{◌≡◌, ℕ, suc, ◌+◌, ◌<◌, Bool, true, false, cond, List, [], ◌∷◌, length, get_or, refl, ap, arith, ◌∙◌}
use Rattle.std.specs.Cmp.{IsStrictWeakOrder}
use Rattle.std.specs.List.{AllByRecursion}
use Rattle.std.specs.List.Sorted.{IsSortedBy}
use Rattle.std.proofs.lemmas.List.Sorted.{sorted_far}
use Rattle.sorted_lists.specs.Sorted.{placed, in_order}

-- nothing comes before an earlier item
abbrev pub Ascends : {X : Type 0} → (X → X → Bool) → List X → Type 0
Ascends before [] = Unit {0}
Ascends before (x ∷ xs) = AllByRecursion (λ y. before y x ≡ false) xs × Ascends before xs

placed-first : {X : Type 0} (before : X → X → Bool) (x : X) (xs : List X) → AllByRecursion (λ y. before y x ≡ false) xs → placed before x xs ≡ x ∷ xs
placed-first before x [] behind = refl
placed-first before x (y ∷ ys) behind = rw behind.0 refl

pub in_order-ascending : {X : Type 0} (before : X → X → Bool) (xs : List X) → Ascends before xs → in_order before xs ≡ xs
in_order-ascending before [] ascends = refl
in_order-ascending before (x ∷ xs) ascends =
    ap (placed before x) (in_order-ascending before xs ascends.1) ∙ placed-first before x xs ascends.0

pub All-same : {X : Type 0} (P Q : X → Type 0) (xs : List X) → ((x : X) → P x → Q x) → AllByRecursion P xs → AllByRecursion Q xs
All-same P Q [] leads all = tt
All-same P Q (x ∷ xs) leads all = (leads x all.0, All-same P Q xs leads all.1)

All-placed : {X : Type 0} (P : X → Type 0) (before : X → X → Bool) (x : X) (ys : List X) → P x → AllByRecursion P ys → AllByRecursion P (placed before x ys)
All-placed P before x [] here all = (here, tt)
All-placed P before x (y ∷ ys) here all =
    elim (before y x) as (λ b. AllByRecursion P (cond b (y ∷ placed before x ys) (x ∷ y ∷ ys)))
    [ true ↦ (all.0, All-placed P before x ys here all.1) | false ↦ (here, all) ]

pub All-in_order : {X : Type 0} (P : X → Type 0) (before : X → X → Bool) (xs : List X) → AllByRecursion P xs → AllByRecursion P (in_order before xs)
All-in_order P before [] all = tt
All-in_order P before (x ∷ xs) all = All-placed P before x (in_order before xs) all.0 (All-in_order P before xs all.1)

Ascends-placed_by : {X : Type 0} (before : X → X → Bool) → IsStrictWeakOrder before → (x y : X) (ys : List X) → Ascends before (y ∷ ys) → (b : Bool) → before y x ≡ b
    → Ascends before (placed before x ys) → Ascends before (cond b (y ∷ placed before x ys) (x ∷ y ∷ ys))
Ascends-placed_by before order x y ys ascends true is more =
    (All-placed (λ z. before z y ≡ false) before x ys (order.one_way y x is) ascends.0, more)
Ascends-placed_by before order x y ys ascends false is more =
    ((is, All-same (λ z. before z y ≡ false) (λ z. before z x ≡ false) ys (λ z behind. order.chain z y x behind is) ascends.0), ascends)

Ascends-placed : {X : Type 0} (before : X → X → Bool) → IsStrictWeakOrder before → (x : X) (ys : List X) → Ascends before ys → Ascends before (placed before x ys)
Ascends-placed before order x [] ascends = (tt, tt)
Ascends-placed before order x (y ∷ ys) ascends =
    Ascends-placed_by before order x y ys ascends (before y x) refl (Ascends-placed before order x ys ascends.1)

pub Ascends-in_order : {X : Type 0} (before : X → X → Bool) → IsStrictWeakOrder before → (xs : List X) → Ascends before (in_order before xs)
Ascends-in_order before order [] = tt
Ascends-in_order before order (x ∷ xs) = Ascends-placed before order x (in_order before xs) (Ascends-in_order before order xs)

all_behind : {X : Type 0} (before : X → X → Bool) (x : X) (xs : List X) → ((k : ℕ) (d : X) → k < length xs → before (get_or xs k d) x ≡ false)
    → AllByRecursion (λ y. before y x ≡ false) xs
all_behind before x [] behind = tt
all_behind before x (y ∷ ys) behind = (behind 0 y (omega arith), all_behind before x ys (λ k d below. behind (suc k) d (omega arith)))

-- what is sorted ascends
pub Ascends-sorted : {X : Type 0} (before : X → X → Bool) → IsStrictWeakOrder before → (xs : List X) → IsSortedBy before xs → Ascends before xs
Ascends-sorted before order [] sorted = tt
Ascends-sorted before order (x ∷ xs) sorted = (
  all_behind before x xs (λ k d below. sorted_far before order (x ∷ xs) sorted 0 (suc k) d (omega arith) (omega arith)),
  Ascends-sorted before order xs (λ k d low high. sorted_far before order (x ∷ xs) sorted (suc k) (suc (k + 1)) d (omega arith) (omega arith)),
)
