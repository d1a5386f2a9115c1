-- Lists that take an element only once.
use Rattle.std.proofs.Common.{◌≡◌, ◌∙◌, refl, ap, ◌<◌, Bool, true, false, if◌then◌else◌, List, [], ◌∷◌, ◌++◌, length, arith}
use Rattle.std.specs.Prelude.{fold, ◌||◌}
use Rattle.std.specs.List.{AllByRecursion, list_any, position_or_len}
use Rattle.std.proofs.lemmas.List.Folds.{list_any-append}

-- what is found stands before the end
pub position-within : {X : Type 0} (p : X → Bool) (xs : List X) → list_any p xs ≡ true → position_or_len p xs < length xs
position-within p [] is = absurd cc
position-within p (x ∷ xs) is = by_test (p x) refl (position-within p xs)
  where
    by_test : (t : Bool) → p x ≡ t → (list_any p xs ≡ true → position_or_len p xs < length xs) → position_or_len p (x ∷ xs) < length (x ∷ xs)
    by_test true here more = rw here (omega arith)
    by_test false other more = rw other (let rest = more (rw other at is) in omega (arith, rest))

or-left : (a b : Bool) → a ≡ true → (a || b) ≡ true
or-left a b is = ap (λ t. t || b) is

or-right : (a b : Bool) → b ≡ true → (a || b) ≡ true
or-right true b is = refl
or-right false b is = is

pub all-split : {X : Type 0} (P : X → Type 0) (xs ys : List X) → AllByRecursion P (xs ++ ys) → AllByRecursion P xs × AllByRecursion P ys
all-split P [] ys all = (tt, all)
all-split P (x ∷ xs) ys all = let rest = all-split P xs ys all.1 in ((all.0, rest.0), rest.1)

pub all-join : {X : Type 0} (P : X → Type 0) (xs ys : List X) → AllByRecursion P xs → AllByRecursion P ys → AllByRecursion P (xs ++ ys)
all-join P [] ys first second = second
all-join P (x ∷ xs) ys first second = (first.0, all-join P xs ys first.1 second)

module _ {X : Type 0} (same : X → X → Bool) (itself : (x : X) → same x x ≡ true) where
  -- the element is one of the list
  abbrev pub IsIn : List X → X → Type 0
  IsIn xs x = list_any (same x) xs ≡ true

  -- the list with an element among it
  abbrev added : List X → X → List X
  added xs x = if list_any (same x) xs then xs else xs ++ x ∷ []

  in-front : (xs ys : List X) (x : X) → IsIn xs x → IsIn (xs ++ ys) x
  in-front xs ys x is = list_any-append (same x) xs ys ∙ or-left (list_any (same x) xs) (list_any (same x) ys) is

  at-end : (xs : List X) (x : X) → IsIn (xs ++ x ∷ []) x
  at-end xs x = list_any-append (same x) xs (x ∷ []) ∙ or-right (list_any (same x) xs) (list_any (same x) (x ∷ [])) (or-left (same x x) false (itself x))

  in-added : (xs : List X) (x : X) → IsIn (added xs x) x
  in-added xs x = by_test (list_any (same x) xs) refl
    where
      by_test : (t : Bool) → list_any (same x) xs ≡ t → IsIn (if t then xs else xs ++ x ∷ []) x
      by_test true is = is
      by_test false is = at-end xs x

  stays-added : (xs : List X) (x y : X) → IsIn xs y → IsIn (added xs x) y
  stays-added xs x y is = by_test (list_any (same x) xs)
    where
      by_test : (t : Bool) → IsIn (if t then xs else xs ++ x ∷ []) y
      by_test true = is
      by_test false = in-front xs (x ∷ []) y is

  stays-fold : (xs ys : List X) (y : X) → IsIn xs y → IsIn (fold added xs ys) y
  stays-fold xs [] y is = is
  stays-fold xs (x ∷ ys) y is = stays-fold (added xs x) ys y (stays-added xs x y is)

  -- all that were to be added are there
  pub all-added : (xs ys : List X) → AllByRecursion (IsIn (fold added xs ys)) ys
  all-added xs [] = tt
  all-added xs (x ∷ ys) = (stays-fold (added xs x) ys x (in-added xs x), all-added (added xs x) ys)

  -- and what holds of all of them holds of the list
  pub added-keep : (P : X → Type 0) (xs ys : List X) → AllByRecursion P xs → AllByRecursion P ys → AllByRecursion P (fold added xs ys)
  added-keep P xs [] old new = old
  added-keep P xs (x ∷ ys) old new = added-keep P (added xs x) ys (by_test (list_any (same x) xs)) new.1
    where
      by_test : (t : Bool) → AllByRecursion P (if t then xs else xs ++ x ∷ [])
      by_test true = old
      by_test false = all-join P xs (x ∷ []) old (new.0, tt)
