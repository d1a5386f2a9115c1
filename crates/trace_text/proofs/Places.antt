-- The item at a place of a list, by what is left from there.
use Rattle.std.proofs.Common.{◌≡◌, refl, rules, ℕ, zero, suc, ◌+◌, List, [], ◌∷◌, drop, slice_get, Some, None}

pub at_place : {A : Type 0} (xs : List A) (k : ℕ) (x : A) (rest : List A) → drop k xs ≡ x ∷ rest → slice_get xs k ≡ Some x
at_place [] zero x rest is = search (rules, is)
at_place [] (suc k) x rest is = search (rules, is)
at_place (y ∷ ys) zero x rest is = search (rules, is)
at_place (y ∷ ys) (suc k) x rest is = search (rules, at_place ys k x rest is)

pub after_place : {A : Type 0} (xs : List A) (k : ℕ) (x : A) (rest : List A) → drop k xs ≡ x ∷ rest → drop (k + 1) xs ≡ rest
after_place [] zero x rest is = search (rules, is)
after_place [] (suc k) x rest is = search (rules, is)
after_place (y ∷ ys) zero x rest is = search (rules, is)
after_place (y ∷ ys) (suc k) x rest is = search (rules, after_place ys k x rest is)

pub no_place : {A : Type 0} (xs : List A) (k : ℕ) → drop k xs ≡ [] → slice_get xs k ≡ None
no_place [] k is = refl
no_place (y ∷ ys) zero is = search (rules, is)
no_place (y ∷ ys) (suc k) is = search (rules, no_place ys k is)
