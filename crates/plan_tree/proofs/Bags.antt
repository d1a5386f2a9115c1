-- Counts over lists: what a filter, a flat_map and an exchange of two sums leave.
use Rattle.std.proofs.Common.{◌≡◌, ℕ, ◌+◌, Bool, true, false, cond, ◌&&◌, List, [], ◌∷◌, ◌++◌, map, sum_by, count_by, filter, flat_map, refl, sym, ap, ap₂, ◌∙◌}
use Rattle.std.proofs.Common.{arith}
use Rattle.std.specs.List.{AllByRecursion}
use Rattle.std.proofs.lemmas.List.Sums.{sum_by-cons, sum_by-append}

abbrev pub bit : Bool → ℕ
bit b = cond b 1 0

pub sum_by-each : {X : Type 0} (f g : X → ℕ) (xs : List X) → AllByRecursion (λ x. f x ≡ g x) xs → sum_by f xs ≡ sum_by g xs
sum_by-each f g [] each = refl
sum_by-each f g (x ∷ xs) each =
    sum_by-cons f x xs ∙ ap₂ ◌+◌ each.0 (sum_by-each f g xs each.1) ∙ sym (sum_by-cons g x xs)

pub AllByRecursion-always : {X : Type 0} (P : X → Type 0) (xs : List X) → ((x : X) → P x) → AllByRecursion P xs
AllByRecursion-always P [] always = tt
AllByRecursion-always P (x ∷ xs) always = (always x, AllByRecursion-always P xs always)

pub AllByRecursion-map : {X : Type 0} (P Q : X → Type 0) (xs : List X) → ((x : X) → P x → Q x) → AllByRecursion P xs → AllByRecursion Q xs
AllByRecursion-map P Q [] step each = tt
AllByRecursion-map P Q (x ∷ xs) step each = (step x each.0, AllByRecursion-map P Q xs step each.1)

pub AllByRecursion-filter : {X : Type 0} (P : X → Type 0) (p : X → Bool) (xs : List X) → AllByRecursion P xs → AllByRecursion P (filter p xs)
AllByRecursion-filter P p [] each = tt
AllByRecursion-filter P p (x ∷ xs) each =
    elim (p x) as (λ b. AllByRecursion P (cond b (x ∷ filter p xs) (filter p xs)))
    [ true ↦ (each.0, AllByRecursion-filter P p xs each.1) | false ↦ AllByRecursion-filter P p xs each.1 ]

pub sum_by-same : {X : Type 0} (f g : X → ℕ) (xs : List X) → ((x : X) → f x ≡ g x) → sum_by f xs ≡ sum_by g xs
sum_by-same f g xs same = sum_by-each f g xs (AllByRecursion-always (λ x. f x ≡ g x) xs same)

pub sum_by-zero : {X : Type 0} (xs : List X) → sum_by (λ (x : X). 0) xs ≡ 0
sum_by-zero [] = refl
sum_by-zero {X} (x ∷ xs) = sum_by-cons (λ (x : X). 0) x xs ∙ ap (λ n. 0 + n) (sum_by-zero xs) ∙ omega arith

pub sum_by-plus : {X : Type 0} (f g : X → ℕ) (xs : List X) → sum_by (λ x. f x + g x) xs ≡ sum_by f xs + sum_by g xs
sum_by-plus f g [] = refl
sum_by-plus f g (x ∷ xs) =
    omega (arith, sum_by-plus f g xs, sum_by-cons (λ y. f y + g y) x xs, sum_by-cons f x xs, sum_by-cons g x xs)

pub count_by-append : {X : Type 0} (p : X → Bool) (xs ys : List X) → count_by p (xs ++ ys) ≡ count_by p xs + count_by p ys
count_by-append p xs ys = sum_by-append (λ x. bit (p x)) xs ys

pub count_by-flat_map : {X Y : Type 0} (p : Y → Bool) (f : X → List Y) (xs : List X)
    → count_by p (flat_map f xs) ≡ sum_by (λ x. count_by p (f x)) xs
count_by-flat_map p f [] = refl
count_by-flat_map p f (x ∷ xs) =
    count_by-append p (f x) (flat_map f xs) ∙ ap (λ n. count_by p (f x) + n) (count_by-flat_map p f xs)
    ∙ sym (sum_by-cons (λ y. count_by p (f y)) x xs)

pub sum_by-filter : {X : Type 0} (f : X → ℕ) (p : X → Bool) (xs : List X)
    → sum_by f (filter p xs) ≡ sum_by (λ x. cond (p x) (f x) 0) xs
sum_by-filter f p [] = refl
sum_by-filter f p (x ∷ xs) =
    elim (p x) as (λ b. sum_by f (cond b (x ∷ filter p xs) (filter p xs)) ≡ cond b (f x) 0 + sum_by (λ y. cond (p y) (f y) 0) xs) [
      | true ↦ sum_by-cons f x (filter p xs) ∙ ap (λ n. f x + n) (sum_by-filter f p xs)
      | false ↦ sum_by-filter f p xs ∙ omega arith
    ]
    ∙ sym (sum_by-cons (λ y. cond (p y) (f y) 0) x xs)

bit-and : (b c : Bool) → cond b (bit c) 0 ≡ bit (b && c)
bit-and true c = refl
bit-and false c = refl

pub count_by-filter : {X : Type 0} (p q : X → Bool) (xs : List X)
    → count_by p (filter q xs) ≡ count_by (λ x. q x && p x) xs
count_by-filter p q xs =
    sum_by-filter (λ x. bit (p x)) q xs
    ∙ sum_by-same (λ x. cond (q x) (bit (p x)) 0) (λ x. bit (q x && p x)) xs (λ x. bit-and (q x) (p x))

pub count_by-same : {X : Type 0} (p q : X → Bool) (xs : List X) → ((x : X) → p x ≡ q x) → count_by p xs ≡ count_by q xs
count_by-same p q xs same = sum_by-same (λ x. bit (p x)) (λ x. bit (q x)) xs (λ x. ap bit (same x))

-- the order of two sums doesn't count
pub sum_by-exchange : {X Y : Type 0} (f : X → Y → ℕ) (xs : List X) (ys : List Y)
    → sum_by (λ x. sum_by (f x) ys) xs ≡ sum_by (λ y. sum_by (λ x. f x y) xs) ys
sum_by-exchange f [] ys = sym (sum_by-zero ys)
sum_by-exchange f (x ∷ xs) ys =
    sum_by-cons (λ z. sum_by (f z) ys) x xs ∙ ap (λ n. sum_by (f x) ys + n) (sum_by-exchange f xs ys)
    ∙ sym (sum_by-plus (f x) (λ y. sum_by (λ z. f z y) xs) ys)
    ∙ sum_by-same (λ y. f x y + sum_by (λ z. f z y) xs) (λ y. sum_by (λ z. f z y) (x ∷ xs)) ys
    (λ y. sym (sum_by-cons (λ z. f z y) x xs))

-- a factor that doesn't change goes in front
pub count_by-and : {X : Type 0} (b : Bool) (p : X → Bool) (xs : List X) → count_by (λ x. b && p x) xs ≡ cond b (count_by p xs) 0
count_by-and true p xs = refl
count_by-and false p xs = sum_by-zero xs

-- THE LAW OF A HOP. Where each thing that is kept is of exactly one item, and no other thing is of any,
-- the things that are kept are the things of each item, taken together.
pub count_by-parts : {X E : Type 0} (keep : X → Bool) (of : E → X → Bool) (items : List E) (things : List X)
    → ((x : X) → count_by (λ e. of e x) items ≡ bit (keep x))
    → sum_by (λ e. count_by (of e) things) items ≡ count_by keep things
count_by-parts keep of items things once =
    sum_by-exchange (λ e x. bit (of e x)) items things
    ∙ sum_by-same (λ x. count_by (λ e. of e x) items) (λ x. bit (keep x)) things once

pub count_by-map : {X Y : Type 0} (p : Y → Bool) (f : X → Y) (xs : List X) → count_by p (map f xs) ≡ count_by (λ x. p (f x)) xs
count_by-map p f [] = refl
count_by-map p f (x ∷ xs) =
    sum_by-cons (λ y. bit (p y)) (f x) (map f xs) ∙ ap (λ n. bit (p (f x)) + n) (count_by-map p f xs)
    ∙ sym (sum_by-cons (λ y. bit (p (f y))) x xs)
