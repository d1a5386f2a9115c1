-- A sum over a list when the list changes.
use Rattle.std.proofs.Common.{◌≡◌, ℕ, ◌+◌, ◌≤◌, List, [], ◌∷◌, ◌++◌, Some, refl, ap, arith, zero, suc, ◌⊎◌, inl, inr}
use Rattle.std.specs.Prelude.{slice_get, slice_set, remove}
use Rattle.std.proofs.lemmas.Option.{none-some}
use Rattle.match_context.specs.Bags.{total}

pub total-append : {A : Type 0} (f : A → ℕ) (xs ys : List A) → total f (xs ++ ys) ≡ total f xs + total f ys
total-append f [] ys = omega arith
total-append f (x ∷ xs) ys = omega (arith, total-append f xs ys)

pub total-push : {A : Type 0} (f : A → ℕ) (xs : List A) (y : A) → total f (xs ++ y ∷ []) ≡ total f xs + f y
total-push f [] y = omega arith
total-push f (x ∷ xs) y = omega (arith, total-push f xs y)

pub total-set : {A : Type 0} (f : A → ℕ) (xs : List A) (i : ℕ) (v v' : A) → slice_get xs i ≡ Some v → total f (slice_set xs i v') + f v ≡ total f xs + f v'
total-set f [] i v v' e = cc
total-set f (x ∷ xs) zero v v' e =
    let same : x ≡ v = cc in
    rw same (omega arith)
total-set f (x ∷ xs) (suc i) v v' e = omega (arith, total-set f xs i v v' e)

-- one element less
pub total-remove : {A : Type 0} (f : A → ℕ) (xs : List A) (i : ℕ) (v : A) → slice_get xs i ≡ Some v → total f (remove xs i) + f v ≡ total f xs
total-remove f [] i v e = cc
total-remove f (x ∷ xs) zero v e =
    let same : x ≡ v = cc in
    rw same (omega arith)
total-remove f (x ∷ xs) (suc i) v e = omega (arith, total-remove f xs i v e)

pub total-at : {A : Type 0} (f : A → ℕ) (xs : List A) (i : ℕ) (v : A) → slice_get xs i ≡ Some v → f v ≤ total f xs
total-at f xs i v e = let r = total-remove f xs i v e in omega arith

-- an element of the changed list is the new one, or stood there before
pub get-of_set : {A : Type 0} (xs : List A) (i j : ℕ) (v u : A) → slice_get (slice_set xs i v) j ≡ Some u → ((j ≡ i) × (u ≡ v)) ⊎ (slice_get xs j ≡ Some u)
get-of_set [] i j v u e = cc
get-of_set (x ∷ xs) zero zero v u e = inl (refl, cc)
get-of_set (x ∷ xs) zero (suc j) v u e = inr e
get-of_set (x ∷ xs) (suc i) zero v u e = inr e
get-of_set (x ∷ xs) (suc i) (suc j) v u e = elim (get-of_set xs i j v u e) [ inl p ↦ inl (ap suc p.0, p.1) | inr q ↦ inr q ]

-- an element of the shorter list stood in the longer
pub get-of_remove : {A : Type 0} (xs : List A) (i j : ℕ) (u : A) → slice_get (remove xs i) j ≡ Some u → (k : ℕ) × (slice_get xs k ≡ Some u)
get-of_remove [] zero j u e = absurd (none-some u e)
get-of_remove [] (suc i) j u e = absurd (none-some u e)
get-of_remove (x ∷ xs) zero j u e = (suc j, e)
get-of_remove (x ∷ xs) (suc i) zero u e = (0, e)
get-of_remove (x ∷ xs) (suc i) (suc j) u e = let r = get-of_remove xs i j u e in (suc r.0, r.1)

pub get-of_push : {A : Type 0} (xs : List A) (y u : A) (j : ℕ) → slice_get (xs ++ y ∷ []) j ≡ Some u → (u ≡ y) ⊎ (slice_get xs j ≡ Some u)
get-of_push [] y u zero e = inl cc
get-of_push [] y u (suc j) e = inr e
get-of_push (x ∷ xs) y u zero e = inr e
get-of_push (x ∷ xs) y u (suc j) e = get-of_push xs y u j e
