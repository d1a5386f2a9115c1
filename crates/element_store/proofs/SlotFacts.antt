-- The columns of properties, and the values under them.
use Rattle.std.proofs.Common.{◌≡◌, sym, ap, refl, arith, ◌<◌, ◌≤◌, ◌+◌, ℕ, zero, suc, Bool, true, false, cond, not, nat_eq, List, [], ◌∷◌, length, slice_get, Option, Some, None}
use Rattle.std.specs.List.{position_or_len}
use Rattle.std.specs.Map.{keys_of}
use Rattle.std.proofs.lemmas.Map.Entries.{length-keys_of}
use Rattle.adfs_base.specs.declared.value.Kind.{Kind}
use Rattle.adfs_base.specs.declared.value.Value.{Value}
use Rattle.adfs_base.specs.declared.value.Value.TheVariants as value
use Rattle.element_store.specs.Columns.{Column, column_of, named, slot_from, slot_of, value_of}
use Rattle.element_store.specs.Tables.{AreWords, values_of}
use Rattle.element_store.specs.Words.{value_from, word_from}
use Rattle.element_store.proofs.PositionFacts.{no_place, place_is}

slot_at : (n : ℕ) (cs : List Column) (property k : ℕ) (c : Column) → position_or_len (nat_eq property) (keys_of cs) ≡ k → slice_get cs k ≡ Some c → slot_from n cs property ≡ Some (n + k, c.1)
slot_at n [] property k c at e = cc e
slot_at n (d ∷ ds) property k c at e = by (nat_eq property d.0) at (λ j there got. slot_at (n + 1) ds property j c there got)
  where
    by : (b : Bool) → cond (not b) (1 + position_or_len (nat_eq property) (keys_of ds)) 0 ≡ k
        → ((j : ℕ) → position_or_len (nat_eq property) (keys_of ds) ≡ j → slice_get ds j ≡ Some c → slot_from (n + 1) ds property ≡ Some (n + 1 + j, c.1))
        → cond b (Some (n, d.1)) (slot_from (n + 1) ds property) ≡ Some (n + k, c.1)
    by true here more =
        let one : slice_get (d ∷ ds) 0 ≡ Some c = rw (← here) at e in
        let same : d ≡ c = cc one in
        let place : n + k ≡ n = omega (arith, here) in
        rw (same, place) refl
    by false later more =
        let next : suc (position_or_len (nat_eq property) (keys_of ds)) ≡ k = omega arith in
        let one : slice_get (d ∷ ds) (suc (position_or_len (nat_eq property) (keys_of ds))) ≡ Some c = rw (← next) at e in
        let place : n + k ≡ n + 1 + position_or_len (nat_eq property) (keys_of ds) = omega (arith, next) in
        rw place (more _ refl one)

slot_none : (n : ℕ) (cs : List Column) (property : ℕ) → length cs ≤ position_or_len (nat_eq property) (keys_of cs) → slot_from n cs property ≡ None
slot_none n [] property h = refl
slot_none n (d ∷ ds) property h = by (nat_eq property d.0) h (slot_none (n + 1) ds property)
  where
    by : (b : Bool) → suc (length ds) ≤ cond (not b) (1 + position_or_len (nat_eq property) (keys_of ds)) 0
        → (length ds ≤ position_or_len (nat_eq property) (keys_of ds) → slot_from (n + 1) ds property ≡ None) → cond b (Some (n, d.1)) (slot_from (n + 1) ds property) ≡ None
    by true h more = absurd (omega arith)
    by false h more = more (omega arith)

-- by the place of the property's column
pub slot_found : (columns : List Column) (property k : ℕ) (c : Column) → Some k ≡ column_of columns property → slice_get columns k ≡ Some c → Some (k, c.1) ≡ slot_of columns property
slot_found columns property k c found e =
    let none : 0 + k ≡ k = omega arith in
    let at = slot_at 0 columns property k c (place_is (nat_eq property) (keys_of columns) k (sym found)) e in
    sym (rw none at at)

pub slot_absent : (columns : List Column) (property : ℕ) → None ≡ column_of columns property → None ≡ slot_of columns property
slot_absent columns property found =
    let past = no_place (nat_eq property) (keys_of columns) (sym found) in
    sym (slot_none 0 columns property (omega (arith, past, length-keys_of columns)))

pair_is : (n : ℕ) (a : Kind) (m : ℕ) (b : Kind) → ◌≡◌ {A = Option (ℕ × Kind)} (Some (n, a)) (Some (m, b)) → ◌≡◌ {A = ℕ × Kind} (n, a) (m, b)
pair_is n a m b e = cc e

place_is_first : (n : ℕ) (a : Kind) (m : ℕ) (b : Kind) → ◌≡◌ {A = Option (ℕ × Kind)} (Some (n, a)) (Some (m, b)) → n ≡ m
place_is_first n a m b e = ap (λ (p : ℕ × Kind). p.0) (pair_is n a m b e)

kind_is_first : (n : ℕ) (a : Kind) (m : ℕ) (b : Kind) → ◌≡◌ {A = Option (ℕ × Kind)} (Some (n, a)) (Some (m, b)) → a ≡ b
kind_is_first n a m b e = ap (λ (p : ℕ × Kind). p.1) (pair_is n a m b e)

-- the place is a column's
pub slot_within : (n : ℕ) (cs : List Column) (property m : ℕ) (kind : Kind) → slot_from n cs property ≡ Some (m, kind) → (n ≤ m) × (m < n + length cs)
slot_within n [] property m kind e = cc e
slot_within n (d ∷ ds) property m kind e = by (nat_eq property d.0) e (slot_within (n + 1) ds property m kind)
  where
    by : (b : Bool) → cond b (Some (n, d.1)) (slot_from (n + 1) ds property) ≡ Some (m, kind) → (slot_from (n + 1) ds property ≡ Some (m, kind) → (n + 1 ≤ m) × (m < n + 1 + length ds)) → (n ≤ m) × (m < n + length (d ∷ ds))
    by true f more = let same = place_is_first n d.1 m kind f in (omega (arith, same), omega (arith, same))
    by false f more = let h = more f in (omega (arith, h.0), omega (arith, h.1))

-- the value under a property
pub slot_value : (n : ℕ) (cs : List Column) (cells : List (Option ℕ)) (property m j : ℕ) (kind : Kind) (cell : Option ℕ) → slot_from n cs property ≡ Some (m, kind) → m ≡ n + j → slice_get cells j ≡ Some cell
    → value_of (named cs (values_of cs cells)) property ≡ value_from kind cell
slot_value n [] cells property m j kind cell e at got = cc e
slot_value n (d ∷ ds) [] property m j kind cell e at got = cc got
slot_value n (d ∷ ds) (x ∷ xs) property m j kind cell e at got = by (nat_eq property d.0) e (slot_value (n + 1) ds xs property m) (slot_within (n + 1) ds property m kind)
  where
    by : (b : Bool) → cond b (Some (n, d.1)) (slot_from (n + 1) ds property) ≡ Some (m, kind)
        → ((i : ℕ) (kind2 : Kind) (cell2 : Option ℕ) → slot_from (n + 1) ds property ≡ Some (m, kind2) → m ≡ n + 1 + i → slice_get xs i ≡ Some cell2 → value_of (named ds (values_of ds xs)) property ≡ value_from kind2 cell2)
        → (slot_from (n + 1) ds property ≡ Some (m, kind) → (n + 1 ≤ m) × (m < n + 1 + length ds))
        → cond b (value_from d.1 x) (value_of (named ds (values_of ds xs)) property) ≡ value_from kind cell
    by true f more within =
        let same = place_is_first n d.1 m kind f in
        let types = kind_is_first n d.1 m kind f in
        let first : j ≡ 0 = omega (arith, same, at) in
        let word : x ≡ cell = first_is j first got in
        rw (types, word) refl
      where
        first_is : (i : ℕ) → i ≡ 0 → slice_get (x ∷ xs) i ≡ Some cell → x ≡ cell
        first_is zero z g = cc g
        first_is (suc i) z g = absurd (omega arith)
    by false f more within = later j at got
      where
        later : (i : ℕ) → m ≡ n + i → slice_get (x ∷ xs) i ≡ Some cell → value_of (named ds (values_of ds xs)) property ≡ value_from kind cell
        later zero place g = absurd (omega (arith, place, (within f).0))
        later (suc i) place g = more i kind cell f (omega (arith, place)) g

-- the word of the value under a property
pub slot_word : (n : ℕ) (cs : List Column) (cells : List (Option ℕ)) (property m j : ℕ) (kind : Kind) (cell : Option ℕ) → slot_from n cs property ≡ Some (m, kind) → m ≡ n + j → slice_get cells j ≡ Some cell → AreWords cs cells
    → word_from kind (value_from kind cell) ≡ cell
slot_word n [] cells property m j kind cell e at got words = cc e
slot_word n (d ∷ ds) [] property m j kind cell e at got words = cc got
slot_word n (d ∷ ds) (x ∷ xs) property m j kind cell e at got words = by (nat_eq property d.0) e j at got (λ f i place g. slot_word (n + 1) ds xs property m i kind cell f place g words.1)
  where
    by : (b : Bool) → cond b (Some (n, d.1)) (slot_from (n + 1) ds property) ≡ Some (m, kind) → (i : ℕ) → m ≡ n + i → slice_get (x ∷ xs) i ≡ Some cell
        → (slot_from (n + 1) ds property ≡ Some (m, kind) → (k : ℕ) → m ≡ n + 1 + k → slice_get xs k ≡ Some cell → word_from kind (value_from kind cell) ≡ cell)
        → word_from kind (value_from kind cell) ≡ cell
    by true f zero place g more =
        let types = kind_is_first n d.1 m kind f in
        let word : x ≡ cell = cc g in
        rw (← types, ← word) words.0
    by true f (suc i) place g more = absurd (omega (arith, place, place_is_first n d.1 m kind f))
    by false f zero place g more = absurd (omega (arith, place, (slot_within (n + 1) ds property m kind f).0))
    by false f (suc i) place g more = more f i (omega (arith, place)) g

pub slot_null : (n : ℕ) (cs : List Column) (vs : List Value) (property : ℕ) → slot_from n cs property ≡ None → value_of (named cs vs) property ≡ value.Null
slot_null n [] vs property e = refl
slot_null n (d ∷ ds) [] property e = refl
slot_null n (d ∷ ds) (v ∷ vs) property e = by (nat_eq property d.0) e (slot_null (n + 1) ds vs property)
  where
    by : (b : Bool) → cond b (Some (n, d.1)) (slot_from (n + 1) ds property) ≡ None → (slot_from (n + 1) ds property ≡ None → value_of (named ds vs) property ≡ value.Null)
        → cond b v (value_of (named ds vs) property) ≡ value.Null
    by true f more = cc f
    by false f more = more f
