-- Flags as bits.
use Rattle.std.proofs.Common.{
  take,
  min,
  ◌≡◌,
  ◌≢◌,
  ◌∙◌,
  sym,
  ap,
  refl,
  arith,
  ◌<◌,
  ◌≤◌,
  ◌+◌,
  ◌*◌,
  ◌/◌,
  ◌%◌,
  ℕ,
  zero,
  suc,
  List,
  [],
  ◌∷◌,
  ◌++◌,
  length,
  get_or,
  slice_get,
  set,
  get_or-set_other,
  get_or-set_same,
  add-one,
  Some,
  ◌==◌,
  length-append,
  inl,
  inr,
  ◌⊎◌,
}
use Rattle.std.proofs.lemmas.Bool.{cases_lt}
use Rattle.std.proofs.lemmas.List.{get_or-take, get_or_append_left, length-take-le, take-append-le, take_all}
use Rattle.std.specs.Int.{bit_at}
use Rattle.element_store.specs.Bits.{Holds, flag, flags}

pub length-flags : (words : List ℕ) (n : ℕ) → length (flags words n) ≡ n
unfolding flags
length-flags words zero = refl
length-flags words (suc n) = length-append (flags words n) (flag words n ∷ []) ∙ rw (length-flags words n) (omega arith)

-- flags that agree below n are the same
pub flags_same : (xs ys : List ℕ) (n : ℕ) → ((i : ℕ) → i < n → flag xs i ≡ flag ys i) → flags xs n ≡ flags ys n
unfolding flags
flags_same xs ys zero h = refl
flags_same xs ys (suc n) h = rw (flags_same xs ys n (λ i k. h i (omega arith)), h n (omega arith)) refl

get_front : {A : Type 0} (xs ys : List A) (i : ℕ) → i < length xs → slice_get (xs ++ ys) i ≡ slice_get xs i
get_front [] ys i h = absurd (omega arith)
get_front (x ∷ xs) ys zero h = refl
get_front (x ∷ xs) ys (suc i) h = get_front xs ys i (omega arith)

get_last : {A : Type 0} (xs : List A) (x : A) (i : ℕ) → i ≡ length xs → slice_get (xs ++ x ∷ []) i ≡ Some x
get_last [] x i e = rw e refl
get_last (y ∷ xs) x zero e = absurd (omega arith)
get_last (y ∷ xs) x (suc i) e = get_last xs x i (omega arith)

pub flags_get : (words : List ℕ) (n i : ℕ) → i < n → slice_get (flags words n) i ≡ Some (flag words i)
unfolding flags
flags_get words zero i h = absurd (omega arith)
flags_get words (suc n) i h = by (cases_lt i n) (λ less. flags_get words n i less)
  where
    by : (i < n) ⊎ (n ≤ i) → (i < n → slice_get (flags words n) i ≡ Some (flag words i)) → slice_get (flags words n ++ flag words n ∷ []) i ≡ Some (flag words i)
    by (inl less) more = let size = length-flags words n in get_front (flags words n) (flag words n ∷ []) i (omega (arith, size)) ∙ more less
    by (inr past) more = let e : n ≡ i = omega arith in rw e (get_last (flags words i) (flag words i) i (sym (length-flags words i)))

pub flags_push : (words : List ℕ) (n : ℕ) → flags words (n + 1) ≡ flags words n ++ flag words n ∷ []
unfolding flags
flags_push words n = rw (add-one n) refl

-- one more word leaves the flags of those before it
pub flags_longer : (words : List ℕ) (w n : ℕ) → n ≤ 64 * length words → flags (words ++ w ∷ []) n ≡ flags words n
flags_longer words w n h = flags_same (words ++ w ∷ []) words n (λ i k.
    let inside : i / 64 < length words = omega arith in
    ap (λ x. bit_at x (i % 64) == 1) (get_or_append_left words (w ∷ []) 0 (i / 64) inside))

-- a write at a place leaves the flags below it, where the other bits of its word stay
pub flags_set : (words : List ℕ) (w i : ℕ) → i / 64 < length words → ((j : ℕ) → j < 64 → j ≢ i % 64 → bit_at w j ≡ bit_at (get_or words (i / 64) 0) j)
    → flags (set words (i / 64) w) i ≡ flags words i
flags_set words w i inside others = flags_same (set words (i / 64) w) words i below
  where
    below : (j : ℕ) → j < i → flag (set words (i / 64) w) j ≡ flag words j
    below j less = by (cases_lt (j / 64) (i / 64))
      where
        by : (j / 64 < i / 64) ⊎ (i / 64 ≤ j / 64) → flag (set words (i / 64) w) j ≡ flag words j
        by (inl other) = let ne : j / 64 ≢ i / 64 = omega arith in rw get_or-set_other refl
        by (inr same) =
            let e : j / 64 ≡ i / 64 = omega arith in
            let ne : j % 64 ≢ i % 64 = omega arith in
            rw (e, get_or-set_same words (i / 64) w 0 inside, others (j % 64) (omega arith) ne) refl

-- words after those of the first n flags don't matter
pub flags_front : (words : List ℕ) (k n : ℕ) → n ≤ 64 * k → flags (take k words) n ≡ flags words n
flags_front words k n h = flags_same (take k words) words n (λ i less.
    let inside : i / 64 < k = omega arith in
    ap (λ x. bit_at x (i % 64) == 1) (get_or-take k words (i / 64) 0 inside))

-- the first flags of more
pub take-flags : (words : List ℕ) (n m : ℕ) → n ≤ m → take n (flags words m) ≡ flags words n
unfolding flags
take-flags words n zero h = let e : n ≡ 0 = omega arith in rw e refl
take-flags words n (suc m) h = by (cases_lt n (suc m)) (take-flags words n m)
  where
    size : length (flags words m) ≡ m
    size = length-flags words m

    by : (n < suc m) ⊎ (suc m ≤ n) → (n ≤ m → take n (flags words m) ≡ flags words n) → take n (flags words m ++ flag words m ∷ []) ≡ flags words n
    by (inl less) more = take-append-le n (flags words m) (flag words m ∷ []) (omega (arith, size)) ∙ more (omega arith)
    by (inr same) more =
        let e : n ≡ suc m = omega arith in
        rw e (take_all (suc m) (flags words m ++ flag words m ∷ []) (omega (arith, size, length-append (flags words m) (flag words m ∷ []))))

-- the words that n flags need, and no more
pub holds_front : (words : List ℕ) (len n : ℕ) → Holds words len → n ≤ len → Holds (take (n / 64 + min 1 (n % 64)) words) n
holds_front words len n h less =
    let enough : n / 64 + min 1 (n % 64) ≤ length words = omega (arith, h.room) in
    let size = length-take-le (n / 64 + min 1 (n % 64)) words enough in
    record { room = rw size (omega arith); tight = rw size (omega arith) }
