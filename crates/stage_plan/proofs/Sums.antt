-- Sums over lists, and what holds of all of their items.
use Rattle.std.proofs.Common.{◌≡◌, ℕ, suc, ◌+◌, Bool, true, false, cond, not, ◌&&◌, List, [], ◌∷◌, ◌++◌, map, refl, ap, ◌∙◌, arith, filter, All}
use Rattle.std.specs.List.{AllByRecursion}
use Rattle.match_context.specs.Bags.{total}

pub total-append : {X : Type 0} (f : X → ℕ) (xs ys : List X) → total f (xs ++ ys) ≡ total f xs + total f ys
total-append f [] ys = omega arith
total-append f (x ∷ xs) ys = let later = total-append f xs ys in omega arith

pub total-map : {X Y : Type 0} (f : Y → ℕ) (g : X → Y) (xs : List X) → total f (map g xs) ≡ total (λ x. f (g x)) xs
total-map f g [] = refl
total-map f g (x ∷ xs) = ap (λ n. f (g x) + n) (total-map f g xs)

pub total-both : {X : Type 0} (f g : X → ℕ) (xs : List X) → total (λ x. f x + g x) xs ≡ total f xs + total g xs
total-both f g [] = refl
total-both f g (x ∷ xs) = let later = total-both f g xs in omega arith

-- those that pass and those that don't are all
pub total-filter : {X : Type 0} (f : X → ℕ) (p : X → Bool) (xs : List X) → total f (filter p xs) + total f (filter (λ x. not (p x)) xs) ≡ total f xs
total-filter f p [] = refl
total-filter f p (x ∷ xs) = at_answer (p x) (total-filter f p xs) where
  at_answer : (b : Bool) → total f (filter p xs) + total f (filter (λ x. not (p x)) xs) ≡ total f xs
      → total f (cond b (x ∷ filter p xs) (filter p xs)) + total f (cond (not b) (x ∷ filter (λ x. not (p x)) xs) (filter (λ x. not (p x)) xs)) ≡ f x + total f xs
  at_answer true later = omega arith
  at_answer false later = omega arith

pub filter-none : {X : Type 0} (p : X → Bool) (xs : List X) → ((x : X) → p x ≡ true) → filter (λ x. not (p x)) xs ≡ []
filter-none p [] every = refl
filter-none p (x ∷ xs) every = ap (λ b. cond (not b) (x ∷ filter (λ x. not (p x)) xs) (filter (λ x. not (p x)) xs)) (every x) ∙ filter-none p xs every

pub by_recursion : {X : Type 0} (P : X → Type 0) (xs : List X) → All P xs → AllByRecursion P xs
by_recursion P [] all = tt
by_recursion P (x ∷ xs) all = (all 0 x (omega arith), by_recursion P xs (λ k d below. all (suc k) d (omega arith)))

pub All-map : {X : Type 0} (P R : X → Type 0) (xs : List X) → ((x : X) → P x → R x) → AllByRecursion P xs → AllByRecursion R xs
All-map P R [] each all = tt
All-map P R (x ∷ xs) each all = (each x all.0, All-map P R xs each all.1)

pub All-both : {X : Type 0} (P Q R : X → Type 0) (xs : List X) → ((x : X) → P x → Q x → R x) → AllByRecursion P xs → AllByRecursion Q xs → AllByRecursion R xs
All-both P Q R [] each ps qs = tt
All-both P Q R (x ∷ xs) each ps qs = (each x ps.0 qs.0, All-both P Q R xs each ps.1 qs.1)

pub and_true : (b : Bool) → (b && true) ≡ b
and_true true = refl
and_true false = refl
