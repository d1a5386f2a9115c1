-- Counts with a greatest number.
use Rattle.std.proofs.Common.{◌≡◌, ◌≤◌, ℕ, zero, suc, ◌+◌, ◌-◌, List, [], ◌∷◌, drop, length, refl, sym, ap, ◌∙◌, arith}
use Rattle.std.specs.Prelude.{flat_map, min, ◌^◌}

-- a count with a greatest number, at the end of the items
pub count-end : {X Y : Type 0} (f : X → List Y) (xs : List X) (i count whole : ℕ) → length xs ≤ i → count ≤ 2 ^ 32 - 1
    → min (count + length (flat_map f (drop i xs))) (2 ^ 32 - 1) ≡ whole → count ≡ whole
count-end f xs i count whole past small so_far =
    let here : count ≡ min (count + 0) (2 ^ 32 - 1) = min-small count (2 ^ 32 - 1) small in
    here ∙ ap (λ rest. min (count + length (flat_map f rest)) (2 ^ 32 - 1)) (sym (drop-all i xs past)) ∙ so_far
  where
    min-small : (n m : ℕ) → n ≤ m → n ≡ min (n + 0) m
    min-small n m small = omega arith

    drop-all : {X : Type 0} (i : ℕ) (xs : List X) → length xs ≤ i → drop i xs ≡ []
    drop-all zero [] past = refl
    drop-all zero (x ∷ xs) past = absurd (omega arith)
    drop-all (suc i) [] past = refl
    drop-all (suc i) (x ∷ xs) past = drop-all i xs (omega arith)

pub min-add : (a b m : ℕ) → min (min a m + min b m) m ≡ min (a + b) m
min-add a b m = omega arith

pub min-add3 : (a b c m : ℕ) → min (min (min a m + min b m) m + min c m) m ≡ min (a + (b + c)) m
min-add3 a b c m = omega arith
