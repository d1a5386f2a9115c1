-- What stands in a list, by cases.
use Rattle.std.proofs.Common.{◌≡◌, ◌<◌, ◌+◌, ◌⊎◌, inl, inr, ℕ, zero, suc, Bool, true, false, cond, List, [], ◌∷◌, ◌++◌, length, map, refl, sym, ap, arith, subst}
use Rattle.std.specs.List.{Contains, filter, slice_index_or}
use Rattle.sorted_lists.specs.Sorted.{placed, in_order}

abbrev pub Among : {X : Type 0} → List X → X → Type 0
Among [] x = ⊥
Among (y ∷ ys) x = (y ≡ x) ⊎ Among ys x

pub Contains-among : {X : Type 0} (xs : List X) (x : X) → Among xs x → Contains xs x
Contains-among [] x among = absurd among
Contains-among (y ∷ ys) x (inl is) = (zero, omega arith, is)
Contains-among (y ∷ ys) x (inr among) = let rest = Contains-among ys x among in (suc rest.0, omega (arith, rest.1), rest.2)

among_by : {X : Type 0} (xs : List X) (x : X) (k : ℕ) → k < length xs → slice_index_or xs k x ≡ x → Among xs x
among_by [] x k within is = absurd (omega (arith, within))
among_by (y ∷ ys) x zero within is = inl is
among_by (y ∷ ys) x (suc k) within is = inr (among_by ys x k (omega (arith, within)) is)

pub Among-contained : {X : Type 0} (xs : List X) (x : X) → Contains xs x → Among xs x
Among-contained xs x contained = among_by xs x contained.0 contained.1 contained.2

-- ---- lists put together

pub Among-left : {X : Type 0} (xs ys : List X) (x : X) → Among xs x → Among (xs ++ ys) x
Among-left [] ys x among = absurd among
Among-left (y ∷ xs) ys x (inl is) = inl is
Among-left (y ∷ xs) ys x (inr among) = inr (Among-left xs ys x among)

pub Among-right : {X : Type 0} (xs ys : List X) (x : X) → Among ys x → Among (xs ++ ys) x
Among-right [] ys x among = among
Among-right (y ∷ xs) ys x among = inr (Among-right xs ys x among)

pub Among-either : {X : Type 0} (xs ys : List X) (x : X) → Among (xs ++ ys) x → Among xs x ⊎ Among ys x
Among-either [] ys x among = inr among
Among-either (y ∷ xs) ys x (inl is) = inl (inl is)
Among-either {X} (y ∷ xs) ys x (inr among) = by (Among-either xs ys x among) where
  by : Among xs x ⊎ Among ys x → ((y ≡ x) ⊎ Among xs x) ⊎ Among ys x
  by (inl left) = inl (inr left)
  by (inr right) = inr right

-- ---- lists that are mapped

pub Among-map : {X Y : Type 0} (f : X → Y) (xs : List X) (x : X) → Among xs x → Among (map f xs) (f x)
Among-map f [] x among = absurd among
Among-map f (y ∷ ys) x (inl is) = inl (ap f is)
Among-map f (y ∷ ys) x (inr among) = inr (Among-map f ys x among)

pub Among-mapped : {X Y : Type 0} (f : X → Y) (xs : List X) (y : Y) → Among (map f xs) y → (x : X) × Among xs x × (f x ≡ y)
Among-mapped f [] y among = absurd among
Among-mapped f (x ∷ xs) y (inl is) = (x, inl refl, is)
Among-mapped f (x ∷ xs) y (inr among) = let rest = Among-mapped f xs y among in (rest.0, inr rest.1, rest.2)

-- ---- lists that are filtered

keep_first : {X : Type 0} (x : X) (xs : List X) (b : Bool) → b ≡ true → Among (cond b (x ∷ xs) xs) x
keep_first x xs true is = inl refl
keep_first x xs false is = absurd cc

keep_other : {X : Type 0} (y x : X) (xs : List X) (b : Bool) → Among xs x → Among (cond b (y ∷ xs) xs) x
keep_other y x xs true among = inr among
keep_other y x xs false among = among

pub Among-filter : {X : Type 0} (p : X → Bool) (xs : List X) (x : X) → Among xs x → p x ≡ true → Among (filter p xs) x
Among-filter p [] x among passes = absurd among
Among-filter p (y ∷ ys) x (inl is) passes =
    subst (λ z. Among (filter p (y ∷ ys)) z) is (keep_first y (filter p ys) (p y) (subst (λ z. p z ≡ true) (sym is) passes))
Among-filter p (y ∷ ys) x (inr among) passes = keep_other y x (filter p ys) (p y) (Among-filter p ys x among passes)

kept_by : {X : Type 0} (p : X → Bool) (y x : X) (ys zs : List X) → (Among zs x → Among ys x × (p x ≡ true)) → (b : Bool) → p y ≡ b
    → Among (cond b (y ∷ zs) zs) x → ((y ≡ x) ⊎ Among ys x) × (p x ≡ true)
kept_by p y x ys zs rest true passes (inl is) = (inl is, subst (λ z. p z ≡ true) is passes)
kept_by p y x ys zs rest true passes (inr among) = let both = rest among in (inr both.0, both.1)
kept_by p y x ys zs rest false fails among = let both = rest among in (inr both.0, both.1)

pub Among-filtered : {X : Type 0} (p : X → Bool) (xs : List X) (x : X) → Among (filter p xs) x → Among xs x × (p x ≡ true)
Among-filtered p [] x among = absurd among
Among-filtered p (y ∷ ys) x among = kept_by p y x ys (filter p ys) (Among-filtered p ys x) (p y) refl among

-- ---- lists in order

placed_first : {X : Type 0} (x y : X) (ys zs : List X) (b : Bool) → Among zs x → Among (cond b (y ∷ zs) (x ∷ y ∷ ys)) x
placed_first x y ys zs true among = inr among
placed_first x y ys zs false among = inl refl

Among-placed_first : {X : Type 0} (before : X → X → Bool) (x : X) (ys : List X) → Among (placed before x ys) x
Among-placed_first before x [] = inl refl
Among-placed_first before x (y ∷ ys) = placed_first x y ys (placed before x ys) (before y x) (Among-placed_first before x ys)

placed_other : {X : Type 0} (x y z : X) (ys zs : List X) (b : Bool) → (Among ys z → Among zs z) → (y ≡ z) ⊎ Among ys z → Among (cond b (y ∷ zs) (x ∷ y ∷ ys)) z
placed_other x y z ys zs true rest (inl is) = inl is
placed_other x y z ys zs true rest (inr among) = inr (rest among)
placed_other x y z ys zs false rest (inl is) = inr (inl is)
placed_other x y z ys zs false rest (inr among) = inr (inr among)

Among-placed_other : {X : Type 0} (before : X → X → Bool) (x z : X) (ys : List X) → Among ys z → Among (placed before x ys) z
Among-placed_other before x z [] among = absurd among
Among-placed_other before x z (y ∷ ys) among = placed_other x y z ys (placed before x ys) (before y x) (Among-placed_other before x z ys) among

-- what stands in a list stands there in order
pub Among-in_order : {X : Type 0} (before : X → X → Bool) (xs : List X) (z : X) → Among xs z → Among (in_order before xs) z
Among-in_order before [] z among = absurd among
Among-in_order before (x ∷ xs) z (inl is) = subst (Among (in_order before (x ∷ xs))) is (Among-placed_first before x (in_order before xs))
Among-in_order before (x ∷ xs) z (inr among) = Among-placed_other before x z (in_order before xs) (Among-in_order before xs z among)
