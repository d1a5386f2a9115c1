-- Lists that are read from the front, and one more item each time.
use Rattle.std.proofs.Common.{◌≡◌, ◌≤◌, ◌<◌, ℕ, zero, suc, ◌+◌, Bool, true, false, if◌then◌else◌, List, [], ◌∷◌, ◌++◌, drop, length, map, get_or, Some, None, refl, sym, ap, ◌∙◌, append_assoc, arith}
use Rattle.std.specs.Prelude.{flat_map, position, nat_lt}
use Rattle.std.specs.List.{position_or_len}
use Rattle.std.specs.Prelude.{fold, not}
use Rattle.std.proofs.lemmas.List.{length-append}
use Rattle.std.proofs.lemmas.List.Sums.{fold-append, prefix_len-le-length}
use Rattle.std.proofs.lemmas.Bool.Decides.{nat_tests}

drop-front : {X : Type 0} (xs : List X) (i : ℕ) (d : X) → i < length xs → drop i xs ≡ get_or xs i d ∷ drop (i + 1) xs
drop-front [] i d below = absurd (omega arith)
drop-front (x ∷ xs) zero d below = refl
drop-front (x ∷ xs) (suc i) d below =
    drop-front xs i d (omega arith) ∙ ap (λ n. get_or xs i d ∷ drop n (x ∷ xs)) (let same : suc (i + 1) ≡ suc i + 1 = omega arith in same)

-- what a function makes of the items from here on, where this was made of those before
pub flat_map-step : {X Y : Type 0} (f : X → List Y) (whole made more : List Y) (xs : List X) (i : ℕ) (d : X) → i < length xs
    → made ++ flat_map f (drop i xs) ≡ whole → more ≡ made ++ f (get_or xs i d) → more ++ flat_map f (drop (i + 1) xs) ≡ whole
flat_map-step f whole made more xs i d below so_far is =
    ap (λ m. m ++ flat_map f (drop (i + 1) xs)) is
    ∙ append_assoc made (f (get_or xs i d)) (flat_map f (drop (i + 1) xs))
    ∙ ap (λ rest. made ++ flat_map f rest) (sym (drop-front xs i d below))
    ∙ so_far

pub map-step : {X Y : Type 0} (f : X → Y) (whole made more : List Y) (xs : List X) (i : ℕ) (d : X) → i < length xs
    → made ++ map f (drop i xs) ≡ whole → more ≡ made ++ f (get_or xs i d) ∷ [] → more ++ map f (drop (i + 1) xs) ≡ whole
map-step f whole made more xs i d below so_far is =
    ap (λ m. m ++ map f (drop (i + 1) xs)) is
    ∙ append_assoc made (f (get_or xs i d) ∷ []) (map f (drop (i + 1) xs))
    ∙ ap (λ rest. made ++ map f rest) (sym (drop-front xs i d below))
    ∙ so_far

-- what isn't found stands past the end
pub position-none : {X : Type 0} (p : X → Bool) (xs : List X) → position p xs ≡ None → length xs ≡ position_or_len p xs
position-none p xs none = by_test (nat_lt (position_or_len p xs) (length xs)) refl none
  where
    by_test : (t : Bool) → nat_lt (position_or_len p xs) (length xs) ≡ t → (if t then Some (position_or_len p xs) else None) ≡ None → length xs ≡ position_or_len p xs
    by_test true is none = absurd cc
    by_test false is none =
        let within : position_or_len p xs ≤ length xs = prefix_len-le-length (λ x. not (p x)) xs in
        grind (arith, nat_tests, is, within)

-- a fold over what a function makes of the items, one item further
pub fold_flat_map-step : {X Y B : Type 0} (step : B → Y → B) (f : X → List Y) (whole now more : B) (xs : List X) (i : ℕ) (d : X) → i < length xs
    → fold step now (flat_map f (drop i xs)) ≡ whole → more ≡ fold step now (f (get_or xs i d)) → fold step more (flat_map f (drop (i + 1) xs)) ≡ whole
fold_flat_map-step step f whole now more xs i d below so_far is =
    ap (λ m. fold step m (flat_map f (drop (i + 1) xs))) is
    ∙ sym (fold-append step now (f (get_or xs i d)) (flat_map f (drop (i + 1) xs)))
    ∙ ap (λ rest. fold step now (flat_map f rest)) (sym (drop-front xs i d below))
    ∙ so_far

pub length-flat_map-step : {X Y : Type 0} (f : X → List Y) (xs : List X) (i : ℕ) (d : X) → i < length xs
    → length (flat_map f (drop i xs)) ≡ length (f (get_or xs i d)) + length (flat_map f (drop (i + 1) xs))
length-flat_map-step f xs i d below =
    ap (λ rest. length (flat_map f rest)) (drop-front xs i d below) ∙ length-append (f (get_or xs i d)) (flat_map f (drop (i + 1) xs))

pub from_zero : (i : ℕ) → 0 + i ≡ i
from_zero i = omega arith
