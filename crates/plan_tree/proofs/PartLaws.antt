-- What a machine's part has of the graph.
use Rattle.std.proofs.Common.{◌≡◌, ℕ, zero, suc, ◌+◌, ◌<◌, Bool, true, false, cond, not, ◌==◌, List, [], ◌∷◌, ◌++◌, length, map, Some, None, sum_by, filter}
use Rattle.std.proofs.Common.{refl, sym, ap, ap₂, ◌∙◌, subst, arith, position}
use Rattle.std.specs.Prelude.{slice_get, slice_index, nat_eq, nat_lt, option_map}
use Rattle.std.specs.List.{AllByRecursion, position_or_len, range_with_len}
use Rattle.std.proofs.lemmas.Bool.Decides.{nat_tests}
use Rattle.std.specs.Option.{option_and_then, option_map_or}
use Rattle.std.proofs.lemmas.Bool.{eq-eqb, lt-ltb, ne_eqb}
use Rattle.std.proofs.lemmas.List.Sums.{sum_by-cons}
use Rattle.graph_tables.specs.Graph.{Edge, EndsIn, PropertyGraph, Vertex, without_ends}
use Rattle.partition.specs.Parts.{Entry, MachinePart, entries_of, entry_of, entry_order, lists_of, near_end, numbered, other_end, part_with, vertices_of}
use Rattle.sorted_lists.specs.Sorted.{before_by, in_order, placed}
use Rattle.plan_tree.specs.Answers.{entries_in, vertex_in}
use Rattle.plan_tree.specs.Rows.{edges_at}

-- the first place of two lists, one after an item
position_cons : {X : Type 0} (p : X → Bool) (x : X) (xs : List X) → position p (x ∷ xs) ≡ cond (p x) (Some 0) (option_map suc (position p xs))
position_cons {X} p x xs = by (p x) (nat_lt (position_or_len p xs) (length xs)) refl
  where
    by : (b t : Bool) → nat_lt (position_or_len p xs) (length xs) ≡ t
        → cond (nat_lt (cond (not b) (1 + position_or_len p xs) 0) (suc (length xs))) (Some (cond (not b) (1 + position_or_len p xs) 0)) None
        ≡ cond b (Some 0) (option_map suc (cond (nat_lt (position_or_len p xs) (length xs)) (Some (position_or_len p xs)) None))
    by true t is = let less : nat_lt 0 (suc (length xs)) ≡ true = grind (arith, nat_tests) in rw less refl
    by false true is =
        let less : nat_lt (1 + position_or_len p xs) (suc (length xs)) ≡ true = grind (arith, nat_tests) in
        let next : 1 + position_or_len p xs ≡ suc (position_or_len p xs) = omega arith in
        rw (less, is, next) refl
    by false false is =
        let more : nat_lt (1 + position_or_len p xs) (suc (length xs)) ≡ false = grind (arith, nat_tests) in
        rw (more, is) refl

-- a vertex among those that pass, and what stands for it in a list that goes along
found-in : {X Y : Type 0} (p : ℕ × X → Bool) (f : ℕ × X → Y) (k j : ℕ) (x : X) (xs : List X) → slice_get xs j ≡ Some x → p (k + j, x) ≡ true
    → (place : ℕ) × (position (nat_eq (k + j)) (map (λ v. v.0) (filter p (numbered k xs))) ≡ Some place)
    × (slice_get (map f (filter p (numbered k xs))) place ≡ Some (f (k + j, x)))
found-in p f k j x [] found passes = cc
found-in {X = X} p f k zero x (y ∷ ys) found passes =
    let same : y ≡ x = cc in
    let here : p (k, y) ≡ true = ap₂ (λ n z. p (n, z)) (let e : k ≡ k + 0 = omega arith in e) same ∙ passes in
    let rest = filter p (numbered (k + 1) ys) in
    let is : filter p (numbered k (y ∷ ys)) ≡ (k, y) ∷ rest = ap (λ b. cond b ((k, y) ∷ rest) rest) here in (
      0,
      ap (λ zs. position (nat_eq (k + 0)) (map (λ (v : ℕ × X). v.0) zs)) is
          ∙ position_cons (nat_eq (k + 0)) k (map (λ (v : ℕ × X). v.0) rest)
          ∙ ap (λ b. cond b (Some 0) (option_map suc (position (nat_eq (k + 0)) (map (λ v. v.0) rest)))) (eq-eqb (k + 0) k (let e : k + 0 ≡ k = omega arith in e)),
      ap (λ zs. slice_get (map f zs) 0) is ∙ ap₂ (λ n z. Some (f (n, z))) (let e : k ≡ k + 0 = omega arith in e) same,
    )
found-in {X = X} p f k (suc j) x (y ∷ ys) found passes =
    let e : k + 1 + j ≡ k + suc j = omega arith in
    let later = found-in p f (k + 1) j x ys found (ap (λ n. p (n, x)) e ∙ passes) in
    at_answer (p (k, y)) later.0 (ap (λ n. position (nat_eq n) (map (λ v. v.0) (filter p (numbered (k + 1) ys)))) (sym e) ∙ later.1)
    (later.2 ∙ ap (λ n. Some (f (n, x))) e)
  where
    at_answer : (b : Bool) (place : ℕ) → position (nat_eq (k + suc j)) (map (λ v. v.0) (filter p (numbered (k + 1) ys))) ≡ Some place
        → slice_get (map f (filter p (numbered (k + 1) ys))) place ≡ Some (f (k + suc j, x))
        → (place : ℕ) × (position (nat_eq (k + suc j)) (map (λ v. v.0) (cond b ((k, y) ∷ filter p (numbered (k + 1) ys)) (filter p (numbered (k + 1) ys)))) ≡ Some place)
        × (slice_get (map f (cond b ((k, y) ∷ filter p (numbered (k + 1) ys)) (filter p (numbered (k + 1) ys)))) place ≡ Some (f (k + suc j, x)))
    at_answer true place at is = (
      suc place,
      position_cons (nat_eq (k + suc j)) k (map (λ (v : ℕ × X). v.0) (filter p (numbered (k + 1) ys)))
          ∙ ap (λ b. cond b (Some 0) (option_map suc (position (nat_eq (k + suc j)) (map (λ v. v.0) (filter p (numbered (k + 1) ys)))))) (ne_eqb (k + suc j) k (λ e. omega arith))
          ∙ ap (option_map suc) at,
      is,
    )
    at_answer false place at is = (place, at, is)

get_from : {X : Type 0} (xs : List X) (j : ℕ) → j < length xs → (x : X) × (slice_get xs j ≡ Some x)
get_from [] j below = absurd (omega arith)
get_from (x ∷ xs) zero below = (x, refl)
get_from (x ∷ xs) (suc j) below = get_from xs j (omega arith)

module _ (g : PropertyGraph) (owners : List ℕ) (machines m : ℕ) where
  abbrev pub part : MachinePart
  part = part_with owners machines g m

  abbrev is_own : ℕ × Vertex → Bool
  is_own v = slice_index owners v.0 == m

  module _ (n : ℕ) (below : n < length g.vertices) (all : length owners ≡ length g.vertices) (own : slice_index owners n ≡ m) where
    in_part : nat_lt n (length owners) ≡ true
    in_part = lt-ltb n (length owners) (subst (λ k. n < k) (sym all) below)

    passes : (x : Vertex) → is_own (0 + n, x) ≡ true
    passes x = eq-eqb (slice_index owners (0 + n)) m (ap (slice_index owners) (let e : 0 + n ≡ n = omega arith in e) ∙ own)

    at_zero : 0 + n ≡ n
    at_zero = omega arith

    pub vertex-in : vertex_in part n ≡ slice_get g.vertices n
    vertex-in =
        let x = get_from g.vertices n below in
        let at = found-in is_own (λ (v : ℕ × Vertex). v.1) 0 n x.0 g.vertices x.1 (passes x.0) in
        ap (λ b. option_and_then (slice_get part.vertices) (cond b (position (nat_eq n) part.numbers) None)) in_part
        ∙ ap (option_and_then (slice_get part.vertices)) (ap (λ k. position (nat_eq k) part.numbers) (sym at_zero) ∙ at.1)
        ∙ at.2 ∙ sym x.1

    entries-by : (out : Bool) → lists_of out part ≡ map (λ (v : ℕ × Vertex). entries_of owners out g.edges v.0) (vertices_of owners m g.vertices)
    entries-by true = refl
    entries-by false = refl

    pub entries-in : (out : Bool) → entries_in out part n ≡ entries_of owners out g.edges n
    entries-in out =
        let x = get_from g.vertices n below in
        let at = found-in is_own (λ (v : ℕ × Vertex). entries_of owners out g.edges v.0) 0 n x.0 g.vertices x.1 (passes x.0) in
        ap (λ b. option_map_or (λ entries. entries) (option_and_then (slice_get (lists_of out part)) (cond b (position (nat_eq n) part.numbers) None)) []) in_part
        ∙ ap (λ o. option_map_or (λ entries. entries) (option_and_then (slice_get (lists_of out part)) o) []) (ap (λ k. position (nat_eq k) part.numbers) (sym at_zero) ∙ at.1)
        ∙ ap (λ ls. option_map_or (λ entries. entries) (slice_get ls at.0) []) (entries-by out)
        ∙ ap (λ o. option_map_or (λ entries. entries) o []) at.2 ∙ ap (entries_of owners out g.edges) at_zero

-- a list in order has the same items
sum_by-placed : {X : Type 0} (f : X → ℕ) (before : X → X → Bool) (x : X) (xs : List X) → sum_by f (placed before x xs) ≡ f x + sum_by f xs
sum_by-placed f before x [] = sum_by-cons f x []
sum_by-placed f before x (y ∷ ys) = at_answer (before y x) (sum_by-placed f before x ys) where
  swapped : (a b c : ℕ) → a + (b + c) ≡ b + (a + c)
  swapped a b c = omega arith

  at_answer : (b : Bool) → sum_by f (placed before x ys) ≡ f x + sum_by f ys → sum_by f (cond b (y ∷ placed before x ys) (x ∷ y ∷ ys)) ≡ f x + sum_by f (y ∷ ys)
  at_answer true later =
      sum_by-cons f y (placed before x ys) ∙ ap (λ n. f y + n) later
      ∙ swapped (f y) (f x) (sum_by f ys) ∙ ap (λ n. f x + n) (sym (sum_by-cons f y ys))
  at_answer false later = sum_by-cons f x (y ∷ ys)

sum_by-in_order : {X : Type 0} (f : X → ℕ) (before : X → X → Bool) (xs : List X) → sum_by f (in_order before xs) ≡ sum_by f xs
sum_by-in_order f before [] = refl
sum_by-in_order f before (x ∷ xs) =
    sum_by-placed f before x (in_order before xs) ∙ ap (λ n. f x + n) (sum_by-in_order f before xs) ∙ sym (sum_by-cons f x xs)

sum_by-map : {X Y : Type 0} (f : Y → ℕ) (h : X → Y) (xs : List X) → sum_by f (map h xs) ≡ sum_by (λ x. f (h x)) xs
sum_by-map f h [] = refl
sum_by-map f h (x ∷ xs) =
    sum_by-cons f (h x) (map h xs) ∙ ap (λ n. f (h x) + n) (sum_by-map f h xs) ∙ sym (sum_by-cons (λ y. f (h y)) x xs)

pub sum_by-entries : (g : PropertyGraph) (owners : List ℕ) (out : Bool) (n : ℕ) (f : Entry → ℕ)
    → sum_by f (entries_of owners out g.edges n) ≡ sum_by (λ e. f (entry_of owners out e)) (edges_at g out n)
sum_by-entries g owners out n f =
    sum_by-in_order f (before_by entry_order) (map (entry_of owners out) (edges_at g out n)) ∙ sum_by-map f (entry_of owners out) (edges_at g out n)

All-placed : {X : Type 0} (P : X → Type 0) (before : X → X → Bool) (x : X) (xs : List X) → P x → AllByRecursion P xs → AllByRecursion P (placed before x xs)
All-placed P before x [] here all = (here, tt)
All-placed P before x (y ∷ ys) here all = at_answer (before y x) (All-placed P before x ys here all.1) where
  at_answer : (b : Bool) → AllByRecursion P (placed before x ys) → AllByRecursion P (cond b (y ∷ placed before x ys) (x ∷ y ∷ ys))
  at_answer true later = (all.0, later)
  at_answer false later = (here, all)

All-in_order : {X : Type 0} (P : X → Type 0) (before : X → X → Bool) (xs : List X) → AllByRecursion P xs → AllByRecursion P (in_order before xs)
All-in_order P before [] all = tt
All-in_order P before (x ∷ xs) all = All-placed P before x (in_order before xs) all.0 (All-in_order P before xs all.1)

-- what an entry says of the graph
pub record IsEntryOf (g : PropertyGraph) (owners : List ℕ) (entry : Entry) : Type 0 where
  pub edge_in : entry.edge < length g.edges
  pub other_in : entry.other < length g.vertices
  pub owned : entry.machine ≡ slice_index owners entry.other
  pub element : slice_get (without_ends g.edges) entry.edge ≡ Some (record { key = entry.key; label = entry.label; values = entry.values })

entries-are : (g : PropertyGraph) (owners : List ℕ) (out : Bool) (n k : ℕ) (front es : List Edge) → g.edges ≡ front ++ es → length front ≡ k
    → AllByRecursion (EndsIn g.vertices) es
    → AllByRecursion (IsEntryOf g owners) (map (entry_of owners out) (filter (λ e. near_end out e.1 == n) (numbered k es)))
entries-are g owners out n k front [] is size ends = tt
entries-are g owners out n k front (e ∷ es) is size ends =
    at_answer (near_end out e == n) (entries-are g owners out n (k + 1) (front ++ e ∷ []) es (is ∙ shifted front) (longer front ∙ ap (λ m. m + 1) size) ends.1)
  where
    shifted : (fs : List Edge) → fs ++ e ∷ es ≡ (fs ++ e ∷ []) ++ es
    shifted [] = refl
    shifted (f ∷ fs) = ap (λ zs. f ∷ zs) (shifted fs)

    longer : (fs : List Edge) → length (fs ++ e ∷ []) ≡ length fs + 1
    longer [] = refl
    longer (f ∷ fs) = let later = longer fs in omega arith

    at_end : (fs : List Edge) → slice_get (without_ends (fs ++ e ∷ es)) (length fs) ≡ Some (record { key = e.key; label = e.label; values = e.values })
    at_end [] = refl
    at_end (f ∷ fs) = at_end fs

    sizes : (fs : List Edge) → length fs < length (fs ++ e ∷ es)
    sizes [] = omega arith
    sizes (f ∷ fs) = let later = sizes fs in omega arith

    far : (out : Bool) → other_end out e < length g.vertices
    far true = ends.0.1
    far false = ends.0.0

    at_answer : (b : Bool) → AllByRecursion (IsEntryOf g owners) (map (entry_of owners out) (filter (λ e. near_end out e.1 == n) (numbered (k + 1) es)))
        → AllByRecursion (IsEntryOf g owners) (map (entry_of owners out) (cond b ((k, e) ∷ filter (λ e. near_end out e.1 == n) (numbered (k + 1) es)) (filter (λ e. near_end out e.1 == n) (numbered (k + 1) es))))
    at_answer true later = (
      record {
        edge_in = subst (λ m. m < length g.edges) size (subst (λ es. length front < length es) (sym is) (sizes front));
        other_in = far out;
        owned = refl;
        element = ap (λ m. slice_get (without_ends g.edges) m) (sym size) ∙ ap (λ es. slice_get (without_ends es) (length front)) is ∙ at_end front;
      },
      later,
    )
    at_answer false later = later

pub entries-all : (g : PropertyGraph) (owners : List ℕ) (out : Bool) (n : ℕ) → AllByRecursion (EndsIn g.vertices) g.edges
    → AllByRecursion (IsEntryOf g owners) (entries_of owners out g.edges n)
entries-all g owners out n ends =
    All-in_order (IsEntryOf g owners) (before_by entry_order) (map (entry_of owners out) (edges_at g out n)) (entries-are g owners out n 0 [] g.edges refl refl ends)

-- the numbers of a machine's vertices
pub numbers-are : (owners : List ℕ) (m k : ℕ) (vs : List Vertex)
    → map (λ (v : ℕ × Vertex). v.0) (filter (λ v. slice_index owners v.0 == m) (numbered k vs)) ≡ filter (λ i. slice_index owners i == m) (range_with_len k (length vs))
numbers-are owners m k [] = refl
numbers-are owners m k (v ∷ vs) = at_answer (slice_index owners k == m) (numbers-are owners m (k + 1) vs) where
  at_answer : (b : Bool)
      → map (λ (v : ℕ × Vertex). v.0) (filter (λ v. slice_index owners v.0 == m) (numbered (k + 1) vs)) ≡ filter (λ i. slice_index owners i == m) (range_with_len (k + 1) (length vs))
      → map (λ (v : ℕ × Vertex). v.0) (cond b ((k, v) ∷ filter (λ v. slice_index owners v.0 == m) (numbered (k + 1) vs)) (filter (λ v. slice_index owners v.0 == m) (numbered (k + 1) vs)))
      ≡ cond b (k ∷ filter (λ i. slice_index owners i == m) (range_with_len (k + 1) (length vs))) (filter (λ i. slice_index owners i == m) (range_with_len (k + 1) (length vs)))
  at_answer true later = ap (λ ns. k ∷ ns) later
  at_answer false later = later
