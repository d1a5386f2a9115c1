-- The first place at which a test passes.
use Rattle.std.proofs.Common.{◌≡◌, refl, arith, ◌+◌, ◌<◌, ◌≤◌, ℕ, Bool, true, false, cond, List, [], ◌∷◌, length, position, Some, None, OnErr, Result, Ok, Err, nat_lt}
use Rattle.std.proofs.lemmas.Bool.Decides.{nat_tests}
use Rattle.std.specs.List.{position_or_len}

pub within : (p : ℕ → Bool) (xs : List ℕ) → position_or_len p xs ≤ length xs
within p [] = omega arith
within p (x ∷ xs) = by (p x) refl (within p xs)
  where
    by : (b : Bool) → p x ≡ b → position_or_len p xs ≤ length xs → position_or_len p (x ∷ xs) ≤ length (x ∷ xs)
    by true e h = rw e (omega arith)
    by false e h = rw e (omega (arith, h))

pub place_some : (p : ℕ → Bool) (xs : List ℕ) (n : ℕ) → Some n ≡ position p xs → n ≡ position_or_len p xs
place_some p xs n e = by (nat_lt (position_or_len p xs) (length xs)) e
  where
    by : (b : Bool) → Some n ≡ cond b (Some (position_or_len p xs)) None → n ≡ position_or_len p xs
    by true f = cc f
    by false f = cc f

pub place_none : (p : ℕ → Bool) (xs : List ℕ) → None ≡ position p xs → length xs ≡ position_or_len p xs
place_none p xs e = by (nat_lt (position_or_len p xs) (length xs)) refl e
  where
    by : (b : Bool) → nat_lt (position_or_len p xs) (length xs) ≡ b → None ≡ cond b (Some (position_or_len p xs)) None → length xs ≡ position_or_len p xs
    by true t f = cc f
    by false t f = let all : length xs ≤ position_or_len p xs = grind (arith, nat_tests) in omega (arith, within p xs, all)

-- what falls where one goes on only with less left
pub falls : (more : Bool) (m n : ℕ) → (more ≡ true → m < n) → cond more (m + 1) 0 < n + 1
falls true m n h = omega (arith, h refl)
falls false m n h = omega arith

pub on_err : {A E P : Type 0} (r : Result A E) → P → OnErr r P
on_err (Ok x) p = tt
on_err (Err e) p = p
