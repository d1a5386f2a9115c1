-- The tables of what is shared, after one number of them has changed.
use Rattle.std.proofs.Common.{◌≡◌, ◌≢◌, ℕ, ◌+◌, ◌-◌, ◌*◌, ◌<◌, Bool, true, false, ◌&&◌, ◌==◌, eqb, List, length, get_or, refl, sym, arith, ◌⊎◌, inl, inr}
use Rattle.std.specs.Prelude.{slice_set}
use Rattle.std.proofs.lemmas.Nat.{same_from_place, mul-add-lt}
use Rattle.std.proofs.lemmas.List.{get_or-set_same, get_or-set_other}
use Rattle.std.proofs.lemmas.Bool.{eqb-true, eqb-false}
use Rattle.std.proofs.Math.Nat.{mul_comm}
use Rattle.fabric.specs.Account.{one}
use Rattle.fabric.specs.Shared.{Shared, IsUnit, place}

-- whether two words of credits are the same one
abbrev pub is_word : ℕ → ℕ → ℕ → ℕ → ℕ → ℕ → Bool
is_word from stage to from' stage' to' = (from' == from) && ((stage' == stage) && (to' == to))

-- whether two words are the same
pub word-tells : (m k n a j q : ℕ) → ((is_word m k n a j q ≡ true) × (a ≡ m) × (j ≡ k) × (q ≡ n)) ⊎ ((is_word m k n a j q ≡ false) × (a ≡ m → j ≡ k → q ≡ n → ⊥))
word-tells m k n a j q = go (eqb a m) refl (eqb j k) refl (eqb q n) refl
  where
    go : (b : Bool) → eqb a m ≡ b → (c : Bool) → eqb j k ≡ c → (d : Bool) → eqb q n ≡ d →
        ((is_word m k n a j q ≡ true) × (a ≡ m) × (j ≡ k) × (q ≡ n)) ⊎ ((is_word m k n a j q ≡ false) × (a ≡ m → j ≡ k → q ≡ n → ⊥))
    go true x true y true z = inl (rw (x, y, z) refl, eqb-true a m x, eqb-true j k y, eqb-true q n z)
    go false x c y d z = inr (rw x refl, λ p r s. eqb-false a m x p)
    go true x false y d z = inr (rw (x, y) refl, λ p r s. eqb-false j k y r)
    go true x true y false z = inr (rw (x, y, z) refl, λ p r s. eqb-false q n z s)

-- a table has a place for each word
pub place-within : (s : Shared) (ws : List ℕ) (a j q : ℕ) → length ws ≡ s.shape.machines * s.shape.stages * s.shape.machines → IsUnit s a j q → place s a j q < length ws
place-within s ws a j q len unit =
    rw (len, mul_comm (s.shape.machines * s.shape.stages) s.shape.machines)
    (mul-add-lt (a * s.shape.stages + j) s.shape.machines q (s.shape.machines * s.shape.stages)
    (rw (mul_comm s.shape.machines s.shape.stages) (mul-add-lt a s.shape.stages j s.shape.machines unit.0 unit.2)) unit.3)

-- and each a place of its own
pub place-apart : (s : Shared) (m k n a j q : ℕ) → IsUnit s m k n → IsUnit s a j q → (a ≡ m → j ≡ k → q ≡ n → ⊥) → place s m k n ≢ place s a j q
place-apart s m k n a j q here there other e =
    let outer = same_from_place (m * s.shape.stages + k) n (a * s.shape.stages + j) q s.shape.machines here.3 there.3 e in
    let inner = same_from_place m k a j s.shape.stages here.2 there.2 outer.0 in
    other (sym inner.0) (sym inner.1) (sym outer.1)

pub word-raised : (s : Shared) (ws : List ℕ) (a j q m k n : ℕ) → length ws ≡ s.shape.machines * s.shape.stages * s.shape.machines → IsUnit s a j q → IsUnit s m k n →
    get_or (slice_set ws (place s a j q) (get_or ws (place s a j q) 0 + 1)) (place s m k n) 0 ≡ get_or ws (place s m k n) 0 + one (is_word m k n a j q)
word-raised s ws a j q m k n len there here = go (word-tells m k n a j q)
  where
    go : ((is_word m k n a j q ≡ true) × (a ≡ m) × (j ≡ k) × (q ≡ n)) ⊎ ((is_word m k n a j q ≡ false) × (a ≡ m → j ≡ k → q ≡ n → ⊥)) →
        get_or (slice_set ws (place s a j q) (get_or ws (place s a j q) 0 + 1)) (place s m k n) 0 ≡ get_or ws (place s m k n) 0 + one (is_word m k n a j q)
    go (inl y) = rw (y.0, ← y.1, ← y.2, ← y.3) (get_or-set_same ws (place s a j q) (get_or ws (place s a j q) 0 + 1) 0 (place-within s ws a j q len there))
    go (inr z) = rw z.0 (rw (get_or-set_other ws (place s a j q) (place s m k n) (get_or ws (place s a j q) 0 + 1) 0 (place-apart s m k n a j q here there z.1)) (omega arith))

pub word-lowered : (s : Shared) (ws : List ℕ) (a j q m k n : ℕ) → length ws ≡ s.shape.machines * s.shape.stages * s.shape.machines → IsUnit s a j q → IsUnit s m k n →
    0 < get_or ws (place s a j q) 0 →
    get_or (slice_set ws (place s a j q) (get_or ws (place s a j q) 0 - 1)) (place s m k n) 0 + one (is_word m k n a j q) ≡ get_or ws (place s m k n) 0
word-lowered s ws a j q m k n len there here some = go (word-tells m k n a j q)
  where
    go : ((is_word m k n a j q ≡ true) × (a ≡ m) × (j ≡ k) × (q ≡ n)) ⊎ ((is_word m k n a j q ≡ false) × (a ≡ m → j ≡ k → q ≡ n → ⊥)) →
        get_or (slice_set ws (place s a j q) (get_or ws (place s a j q) 0 - 1)) (place s m k n) 0 + one (is_word m k n a j q) ≡ get_or ws (place s m k n) 0
    go (inl y) =
        let low = get_or-set_same ws (place s a j q) (get_or ws (place s a j q) 0 - 1) 0 (place-within s ws a j q len there) in
        rw (y.0, ← y.1, ← y.2, ← y.3) (omega arith)
    go (inr z) = rw z.0 (rw (get_or-set_other ws (place s a j q) (place s m k n) (get_or ws (place s a j q) 0 - 1) 0 (place-apart s m k n a j q here there z.1)) (omega arith))

-- ---- numbers by machine
pub number-tells : (m a : ℕ) → ((eqb a m ≡ true) × (a ≡ m)) ⊎ ((eqb a m ≡ false) × (m ≢ a))
number-tells m a = go (eqb a m) refl
  where
    go : (b : Bool) → eqb a m ≡ b → ((eqb a m ≡ true) × (a ≡ m)) ⊎ ((eqb a m ≡ false) × (m ≢ a))
    go true e = inl (e, eqb-true a m e)
    go false e = inr (e, λ same. eqb-false a m e (sym same))

pub number-raised : (ws : List ℕ) (a m : ℕ) → a < length ws → get_or (slice_set ws a (get_or ws a 0 + 1)) m 0 ≡ get_or ws m 0 + one (eqb a m)
number-raised ws a m within = go (number-tells m a)
  where
    go : ((eqb a m ≡ true) × (a ≡ m)) ⊎ ((eqb a m ≡ false) × (m ≢ a)) → get_or (slice_set ws a (get_or ws a 0 + 1)) m 0 ≡ get_or ws m 0 + one (eqb a m)
    go (inl y) = rw (y.0, ← y.1) (get_or-set_same ws a (get_or ws a 0 + 1) 0 within)
    go (inr z) = rw z.0 (rw (get_or-set_other ws a m (get_or ws a 0 + 1) 0 z.1) (omega arith))

pub number-lowered : (ws : List ℕ) (a m : ℕ) → a < length ws → 0 < get_or ws a 0 → get_or (slice_set ws a (get_or ws a 0 - 1)) m 0 + one (eqb a m) ≡ get_or ws m 0
number-lowered ws a m within some = go (number-tells m a)
  where
    go : ((eqb a m ≡ true) × (a ≡ m)) ⊎ ((eqb a m ≡ false) × (m ≢ a)) → get_or (slice_set ws a (get_or ws a 0 - 1)) m 0 + one (eqb a m) ≡ get_or ws m 0
    go (inl y) =
        let low = get_or-set_same ws a (get_or ws a 0 - 1) 0 within in
        rw (y.0, ← y.1) (omega arith)
    go (inr z) = rw z.0 (rw (get_or-set_other ws a m (get_or ws a 0 - 1) 0 z.1) (omega arith))
