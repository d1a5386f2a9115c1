-- The fields of a record, by their places.
use Rattle.std.proofs.Common.{◌≡◌, ◌∙◌, refl, arith, add-one, ◌<◌, ◌+◌, ℕ, zero, suc, drop, length, List, [], ◌∷◌, slice_get, slice_index_or, Some, None}
use Rattle.csv.specs.Records.{field_at}
use Rattle.graph_tables.specs.Headers.{cell_at}

pub field_is : (fs : List (List ℕ)) (i : ℕ) → field_at fs i ≡ slice_get fs i
unfolding field_at
field_is [] i = refl
field_is (f ∷ fs) zero = refl
field_is (f ∷ fs) (suc i) = field_is fs i

pub absent_cell : (fs : List (List ℕ)) (i : ℕ) → slice_get fs i ≡ None → slice_index_or fs i [] ≡ []
absent_cell [] i e = refl
absent_cell (f ∷ fs) zero e = cc e
absent_cell (f ∷ fs) (suc i) e = absent_cell fs i e

pub present_cell : (fs : List (List ℕ)) (i : ℕ) (x : List ℕ) → slice_get fs i ≡ Some x → slice_index_or fs i [] ≡ x
present_cell [] i x e = cc e
present_cell (f ∷ fs) zero x e = cc e
present_cell (f ∷ fs) (suc i) x e = present_cell fs i x e

-- a list from a place on begins with what stands there
pub drop_at : {A : Type 0} (xs : List A) (i : ℕ) (x : A) → slice_get xs i ≡ Some x → drop i xs ≡ x ∷ drop (i + 1) xs
drop_at [] i x e = cc e
drop_at (y ∷ xs) zero x e = let h : y ≡ x = cc e in rw h refl
drop_at (y ∷ xs) (suc i) x e = rw (add-one (suc i)) (drop_at xs i x e ∙ rw (add-one i) refl)

pub drop_cell : (xs : List (List ℕ)) (i : ℕ) → i < length xs → drop i xs ≡ cell_at xs i ∷ drop (i + 1) xs
drop_cell [] i h = absurd (omega arith)
drop_cell (y ∷ xs) zero h = refl
drop_cell (y ∷ xs) (suc i) h = rw (add-one (suc i)) (drop_cell xs i (omega arith) ∙ rw (add-one i) refl)
