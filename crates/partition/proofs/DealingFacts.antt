-- The vertices of a machine by their numbers, and their places.
use Rattle.std.proofs.Common.{◌≡◌, ◌≢◌, ◌∙◌, sym, ap, refl, arith, ℕ, zero, suc, ◌+◌, ◌<◌, ◌≤◌, ◌==◌, nat_eq, nat_lt, not, Bool}
use Rattle.std.proofs.Common.{true, false, cond, List, [], ◌∷◌, ◌++◌, length, map, take, drop, slice_index, slice_index_or, slice_set, position, Some, None, add-one, length-append}
use Rattle.std.proofs.lemmas.Bool.Decides.{nat_tests}
use Rattle.std.proofs.lemmas.List.{drop_all, get_or-set_other, get_or-set_same, take_all}
use Rattle.std.specs.List.{AllByRecursion, filter, position_or_len, range_with_len}
use Rattle.std.specs.Option.{option_map}
use Rattle.element_store.specs.Elements.{Element}
use Rattle.partition.specs.Kept.{element_at, no_element, rank}
use Rattle.partition.specs.Parts.{numbered}

-- one number more
filter_next : (p : ℕ → Bool) (a n : ℕ) → filter p (range_with_len a (suc n)) ≡ filter p (range_with_len a n) ++ cond (p (a + n)) ((a + n) ∷ []) []
filter_next p a zero = let same : a + 0 ≡ a = omega arith in rw same refl
filter_next p a (suc n) = by (p a) (filter_next p (a + 1) n)
  where
    shift : (a + 1) + n ≡ a + suc n
    shift = omega arith

    by : (b : Bool) → filter p (range_with_len (a + 1) (suc n)) ≡ filter p (range_with_len (a + 1) n) ++ cond (p ((a + 1) + n)) (((a + 1) + n) ∷ []) []
        → cond b (a ∷ filter p (range_with_len (a + 1) (suc n))) (filter p (range_with_len (a + 1) (suc n)))
        ≡ cond b (a ∷ filter p (range_with_len (a + 1) n)) (filter p (range_with_len (a + 1) n)) ++ cond (p (a + suc n)) ((a + suc n) ∷ []) []
    by true more = ap (λ t. a ∷ t) (rw shift at more)
    by false more = rw shift at more

pub filter_more : (p : ℕ → Bool) (n : ℕ) → filter p (range_with_len 0 (n + 1)) ≡ filter p (range_with_len 0 n) ++ cond (p n) (n ∷ []) []
filter_more p n = let same : 0 + n ≡ n = omega arith in rw (add-one n) (rw same at (filter_next p 0 n))

range_next : (a n : ℕ) → range_with_len a (suc n) ≡ range_with_len a n ++ (a + n) ∷ []
range_next a zero = let same : a + 0 ≡ a = omega arith in rw same refl
range_next a (suc n) = let shift : (a + 1) + n ≡ a + suc n = omega arith in ap (λ t. a ∷ t) (rw shift at (range_next (a + 1) n))

pub range_more : (n : ℕ) → range_with_len 0 (n + 1) ≡ range_with_len 0 n ++ n ∷ []
range_more n = let same : 0 + n ≡ n = omega arith in rw (add-one n) (rw same at (range_next 0 n))

-- the first place of two lists, one after an item
pub position_cons : {X : Type 0} (p : X → Bool) (x : X) (xs : List X) → position p (x ∷ xs) ≡ cond (p x) (Some 0) (option_map suc (position p xs))
position_cons {X} p x xs = by (p x) (nat_lt (position_or_len p xs) (length xs)) refl
  where
    by : (b t : Bool) → nat_lt (position_or_len p xs) (length xs) ≡ t
        → cond (nat_lt (cond (not b) (1 + position_or_len p xs) 0) (suc (length xs))) (Some (cond (not b) (1 + position_or_len p xs) 0)) None
        ≡ cond b (Some 0) (option_map suc (cond (nat_lt (position_or_len p xs) (length xs)) (Some (position_or_len p xs)) None))
    by true t is = let less : nat_lt 0 (suc (length xs)) ≡ true = grind (arith, nat_tests) in rw less refl
    by false true is =
        let less : nat_lt (1 + position_or_len p xs) (suc (length xs)) ≡ true = grind (arith, nat_tests) in
        let next : 1 + position_or_len p xs ≡ suc (position_or_len p xs) = omega arith in
        rw (less, is, next) refl
    by false false is =
        let less : nat_lt (1 + position_or_len p xs) (suc (length xs)) ≡ false = grind (arith, nat_tests) in
        rw (less, is) refl

-- a number isn't among greater ones
pub absent_below : (q k n : ℕ) (p : ℕ → Bool) → q < k → position (nat_eq q) (filter p (range_with_len k n)) ≡ None
absent_below q k zero p less = refl
absent_below q k (suc n) p less = by (p k) (absent_below q (k + 1) n p (omega arith))
  where
    differs : nat_eq q k ≡ false
    differs = grind (arith, nat_tests)

    by : (b : Bool) → position (nat_eq q) (filter p (range_with_len (k + 1) n)) ≡ None
        → position (nat_eq q) (cond b (k ∷ filter p (range_with_len (k + 1) n)) (filter p (range_with_len (k + 1) n))) ≡ None
    by true more = position_cons (nat_eq q) k (filter p (range_with_len (k + 1) n)) ∙ rw (differs, more) refl
    by false more = more

-- where a number stands among those that pass
pub place_in : (p : ℕ → Bool) (k n v : ℕ) → v < n → position (nat_eq (k + v)) (filter p (range_with_len k n)) ≡ cond (p (k + v)) (Some (length (filter p (range_with_len k v)))) None
place_in p k zero v less = absurd (omega arith)
place_in p k (suc n) zero less = let here : k + 0 ≡ k = omega arith in rw here (by (p k) refl)
  where
    found : nat_eq k k ≡ true
    found = grind (arith, nat_tests)

    by : (b : Bool) → p k ≡ b → position (nat_eq k) (cond b (k ∷ filter p (range_with_len (k + 1) n)) (filter p (range_with_len (k + 1) n))) ≡ cond b (Some 0) None
    by true is = position_cons (nat_eq k) k (filter p (range_with_len (k + 1) n)) ∙ rw found refl
    by false is = absent_below k (k + 1) n p (omega arith)
place_in p k (suc n) (suc v) less = let next : k + suc v ≡ (k + 1) + v = omega arith in rw next (by (p k) (p ((k + 1) + v)) (place_in p (k + 1) n v (omega arith)))
  where
    differs : nat_eq ((k + 1) + v) k ≡ false
    differs = grind (arith, nat_tests)

    by : (b t : Bool) → position (nat_eq ((k + 1) + v)) (filter p (range_with_len (k + 1) n)) ≡ cond t (Some (length (filter p (range_with_len (k + 1) v)))) None
        → position (nat_eq ((k + 1) + v)) (cond b (k ∷ filter p (range_with_len (k + 1) n)) (filter p (range_with_len (k + 1) n)))
        ≡ cond t (Some (length (cond b (k ∷ filter p (range_with_len (k + 1) v)) (filter p (range_with_len (k + 1) v))))) None
    by true true more = position_cons (nat_eq ((k + 1) + v)) k (filter p (range_with_len (k + 1) n)) ∙ rw (differs, more) refl
    by true false more = position_cons (nat_eq ((k + 1) + v)) k (filter p (range_with_len (k + 1) n)) ∙ rw (differs, more) refl
    by false true more = more
    by false false more = more

-- a vertex's place, where the machine has it
pub place_here : (owners : List ℕ) (machine v : ℕ) → v < length owners → slice_index owners v ≡ machine
    → Some (rank owners v) ≡ position (nat_eq v) (filter (λ u. slice_index owners u == machine) (range_with_len 0 (length owners)))
place_here owners machine v less own =
    let at = place_in (λ u. slice_index owners u == machine) 0 (length owners) v less in
    let none : 0 + v ≡ v = omega arith in
    let mine : (slice_index owners v == machine) ≡ true = grind (arith, nat_tests) in
    ap (λ m. Some (length (filter (λ u. slice_index owners u == m) (range_with_len 0 v)))) own ∙ sym (rw (none, mine) at at)

pub place_elsewhere : (owners : List ℕ) (machine v : ℕ) → v < length owners → (slice_index owners v == machine) ≡ false
    → None ≡ position (nat_eq v) (filter (λ u. slice_index owners u == machine) (range_with_len 0 (length owners)))
place_elsewhere owners machine v less other =
    let at = place_in (λ u. slice_index owners u == machine) 0 (length owners) v less in
    let none : 0 + v ≡ v = omega arith in
    sym (rw (none, other) at at)

-- ---- vertices that are counted one after the other

pub All-index : (P : ℕ → Type 0) (xs : List ℕ) (i : ℕ) → AllByRecursion P xs → i < length xs → P (slice_index xs i)
All-index P [] i all less = absurd (omega arith)
All-index P (x ∷ xs) zero all less = all.0
All-index P (x ∷ xs) (suc i) all less = All-index P xs i all.1 (omega arith)

append_nothing : (xs : List ℕ) → xs ++ [] ≡ xs
append_nothing [] = refl
append_nothing (x ∷ xs) = ap (λ t. x ∷ t) (append_nothing xs)

-- a slice of a vector, written back whole
pub written : (len : ℕ) (new old : List ℕ) → length new ≡ len → length old ≡ len → take len (new ++ drop (length new) old) ≡ new
written len new old n o = rw (drop_all (length new) old (omega arith), append_nothing new) (take_all len new (omega arith))

front_still : (xs : List ℕ) (x v : ℕ) → v < length xs → slice_index (xs ++ x ∷ []) v ≡ slice_index xs v
front_still [] x v less = absurd (omega arith)
front_still (y ∷ ys) x zero less = refl
front_still (y ∷ ys) x (suc v) less = front_still ys x v (omega arith)

last_is : (xs : List ℕ) (x v : ℕ) → v ≡ length xs → slice_index (xs ++ x ∷ []) v ≡ x
last_is [] x v e = rw e refl
last_is (y ∷ ys) x zero e = absurd (omega (arith, e))
last_is (y ∷ ys) x (suc v) e = last_is ys x v (omega (arith, e))

-- how many of the first n vertices a machine has
abbrev pub among : List ℕ → ℕ → ℕ → ℕ
among owners n machine = length (filter (λ u. slice_index owners u == machine) (range_with_len 0 n))

filtered_few : (p : ℕ → Bool) (k n : ℕ) → length (filter p (range_with_len k n)) ≤ n
filtered_few p k zero = omega arith
filtered_few p k (suc n) = by (p k) (filtered_few p (k + 1) n)
  where
    by : (b : Bool) → length (filter p (range_with_len (k + 1) n)) ≤ n → length (cond b (k ∷ filter p (range_with_len (k + 1) n)) (filter p (range_with_len (k + 1) n))) ≤ suc n
    by true few = omega arith
    by false few = omega arith

pub among_few : (owners : List ℕ) (n machine : ℕ) → among owners n machine ≤ n
among_few owners n machine = filtered_few (λ u. slice_index owners u == machine) 0 n

among_more : (owners : List ℕ) (n machine : ℕ) → among owners (n + 1) machine ≡ among owners n machine + cond (slice_index owners n == machine) 1 0
among_more owners n machine = rw (filter_more (λ u. slice_index owners u == machine) n) (by (slice_index owners n == machine))
  where
    by : (b : Bool) → length (filter (λ u. slice_index owners u == machine) (range_with_len 0 n) ++ cond b (n ∷ []) []) ≡ among owners n machine + cond b 1 0
    by true = length-append (filter (λ u. slice_index owners u == machine) (range_with_len 0 n)) (n ∷ [])
    by false = rw (append_nothing (filter (λ u. slice_index owners u == machine) (range_with_len 0 n))) (omega arith)

module _ (owners counts : List ℕ) (n machines owner : ℕ) (is : owner ≡ slice_index owners n) (size : length counts ≡ machines) (there : owner < machines)
    (counted : (m : ℕ) → m < machines → slice_index counts m ≡ among owners n m) where
  pub counted_more : (m : ℕ) → m < machines → slice_index (slice_set counts owner (slice_index counts owner + 1)) m ≡ among owners (n + 1) m
  counted_more m within = by (slice_index owners n == m) refl
    where
      by : (b : Bool) → (slice_index owners n == m) ≡ b → slice_index (slice_set counts owner (slice_index counts owner + 1)) m ≡ among owners (n + 1) m
      by true e =
          let same : m ≡ owner = sym (is ∙ grind (arith, nat_tests)) in
          let more = rw e at (among_more owners n m) in
          let value : slice_index counts m + 1 ≡ among owners (n + 1) m = omega (arith, more, counted m within) in
          rw (same, get_or-set_same counts owner (slice_index counts owner + 1) 0 (omega (arith, there, size))) (rw same at value)
      by false e =
          let other : m ≢ owner = λ same. absurd (differs m (same ∙ is) e) in
          let more = rw e at (among_more owners n m) in
          rw (get_or-set_other counts owner m (slice_index counts owner + 1) 0 other) (omega (arith, more, counted m within))
        where
          differs : (k : ℕ) → k ≡ slice_index owners n → (slice_index owners n == k) ≡ false → ⊥
          differs k same f = grind (arith, nat_tests)

  pub placed_more : (places : List ℕ) → length places ≡ n → ((v : ℕ) → v < n → slice_index places v ≡ rank owners v)
      → (v : ℕ) → v < n + 1 → slice_index (places ++ slice_index counts owner ∷ []) v ≡ rank owners v
  placed_more places long placed v less = by (nat_lt v n) refl
    where
      here : slice_index counts owner ≡ rank owners n
      here = rw (← is) (counted owner there)

      by : (b : Bool) → nat_lt v n ≡ b → slice_index (places ++ slice_index counts owner ∷ []) v ≡ rank owners v
      by true e = let before : v < n = grind (arith, nat_tests) in front_still places (slice_index counts owner) v (omega (arith, before, long)) ∙ placed v before
      by false e = let last : v ≡ n = grind (arith, nat_tests) in last_is places (slice_index counts owner) v (last ∙ sym long) ∙ here ∙ ap (rank owners) (sym last)

-- ---- those that are chosen

-- the vertices with a machine's numbers
pub vertices_there : (p : ℕ → Bool) (vs es : List Element) (k : ℕ) → es ≡ drop k vs
    → map (element_at vs) (map (λ v. v.0) (filter (λ v. p v.0) (numbered k es))) ≡ map (λ v. v.1) (filter (λ v. p v.0) (numbered k es))
vertices_there p vs [] k is = refl
vertices_there p vs (e ∷ es) k is = by (p k) (vertices_there p vs es (k + 1) rest)
  where
    front : (xs : List Element) (i : ℕ) → e ∷ es ≡ drop i xs → slice_index_or xs i no_element ≡ e
    front [] zero f = cc f
    front [] (suc i) f = cc f
    front (x ∷ xs) zero f = cc f
    front (x ∷ xs) (suc i) f = front xs i f

    behind : (xs : List Element) (i : ℕ) → e ∷ es ≡ drop i xs → es ≡ drop (i + 1) xs
    behind [] zero f = cc f
    behind [] (suc i) f = cc f
    behind (x ∷ xs) zero f = cc f
    behind (x ∷ xs) (suc i) f = rw (add-one (suc i)) (rw (add-one i) at (behind xs i f))

    rest : es ≡ drop (k + 1) vs
    rest = behind vs k is

    by : (b : Bool) → map (element_at vs) (map (λ v. v.0) (filter (λ v. p v.0) (numbered (k + 1) es))) ≡ map (λ v. v.1) (filter (λ v. p v.0) (numbered (k + 1) es))
        → map (element_at vs) (map (λ v. v.0) (cond b ((k, e) ∷ filter (λ v. p v.0) (numbered (k + 1) es)) (filter (λ v. p v.0) (numbered (k + 1) es))))
        ≡ map (λ v. v.1) (cond b ((k, e) ∷ filter (λ v. p v.0) (numbered (k + 1) es)) (filter (λ v. p v.0) (numbered (k + 1) es)))
    by true more = rw (front vs k is, more) refl
    by false more = more

pub numbers_chosen : {X : Type 0} (k : ℕ) (p : ℕ → Bool) (vs : List X) → filter p (range_with_len k (length vs)) ≡ map (λ v. v.0) (filter (λ v. p v.0) (numbered k vs))
numbers_chosen k p [] = refl
numbers_chosen {X} k p (x ∷ xs) = by (p k) (numbers_chosen (k + 1) p xs)
  where
    by : (b : Bool) → filter p (range_with_len (k + 1) (length xs)) ≡ map (λ v. v.0) (filter (λ v. p v.0) (numbered (k + 1) xs))
        → cond b (k ∷ filter p (range_with_len (k + 1) (length xs))) (filter p (range_with_len (k + 1) (length xs)))
        ≡ map (λ v. v.0) (cond b ((k, x) ∷ filter (λ v. p v.0) (numbered (k + 1) xs)) (filter (λ v. p v.0) (numbered (k + 1) xs)))
    by true more = rw more refl
    by false more = more

-- the numbers so far, and one more
pub numbers_more : (p : ℕ → Bool) (n : ℕ) (now after : List ℕ) → p n ≡ true → now ≡ filter p (range_with_len 0 n) → after ≡ now ++ n ∷ []
    → after ≡ filter p (range_with_len 0 (n + 1))
numbers_more p n now after is so_far pushed = pushed ∙ rw so_far (sym (rw is at (filter_more p n)))

pub numbers_still : (p : ℕ → Bool) (n : ℕ) (now : List ℕ) → p n ≡ false → now ≡ filter p (range_with_len 0 n) → now ≡ filter p (range_with_len 0 (n + 1))
numbers_still p n now is so_far = so_far ∙ sym (rw is at (filter_more p n) ∙ append_none (filter p (range_with_len 0 n)))
  where
    append_none : (xs : List ℕ) → xs ++ [] ≡ xs
    append_none [] = refl
    append_none (x ∷ xs) = ap (λ t. x ∷ t) (append_none xs)
