-- How often vertices and edges stand in parts.
use Rattle.std.proofs.Common.{◌≡◌, ◌∙◌, sym, ap, refl, arith, ℕ, zero, suc, ◌+◌, ◌<◌, ◌==◌, Bool, true, false, cond, List, [], ◌∷◌, length, map, slice_get, slice_index, count_by, Some, ◌⊎◌, inl, inr, option_and_then}
use Rattle.std.proofs.lemmas.Bool.{eqb-true}
use Rattle.std.proofs.lemmas.Bool.Decides.{nat_tests}
use Rattle.std.proofs.lemmas.Option.{slice_get-map}
use Rattle.std.proofs.lemmas.List.Recursion.{is_count_by}
use Rattle.std.specs.List.{filter, range_with_len}
use Rattle.graph_tables.specs.Graph.{Edge, PropertyGraph, Vertex}
use Rattle.sorted_lists.specs.Sorted.{before_by, in_order, placed}
use Rattle.partition.specs.Laws.{ListsOnce, PartsAreTheGraph, TellsEdge, once_if}
use Rattle.partition.specs.Owners.{machine_of}
use Rattle.partition.specs.Parts.{Entry, entries_of, entry_at, entry_of, entry_order, lists_of, near_end, numbered, owners_in, part_with, vertices_of}

-- ---- counts

-- how many items pass, by recursion on the list
abbrev times : {X : Type 0} → (X → Bool) → List X → ℕ
times p [] = 0
times p (x ∷ xs) = cond (p x) 1 0 + times p xs

counted : {X : Type 0} (p : X → Bool) (xs : List X) → times p xs ≡ count_by p xs
counted p xs = is_count_by (times p) p refl (λ x rest. step (p x) (times p rest)) xs
  where
    step : (b : Bool) (n : ℕ) → cond b 1 0 + n ≡ cond b (1 + n) n
    step true n = refl
    step false n = omega arith

-- sorting changes no count
count-placed : {X : Type 0} (p : X → Bool) (before : X → X → Bool) (x : X) (xs : List X) → times p (placed before x xs) ≡ cond (p x) 1 0 + times p xs
count-placed p before x [] = refl
count-placed p before x (y ∷ ys) = by (before y x) (count-placed p before x ys)
  where
    by : (b : Bool) → times p (placed before x ys) ≡ cond (p x) 1 0 + times p ys
        → times p (cond b (y ∷ placed before x ys) (x ∷ y ∷ ys)) ≡ cond (p x) 1 0 + (cond (p y) 1 0 + times p ys)
    by true more = omega (arith, more)
    by false more = refl

count-in_order : {X : Type 0} (p : X → Bool) (before : X → X → Bool) (xs : List X) → times p (in_order before xs) ≡ times p xs
count-in_order p before [] = refl
count-in_order p before (x ∷ xs) = count-placed p before x (in_order before xs) ∙ ap (λ n. cond (p x) 1 0 + n) (count-in_order p before xs)

count-map : {X Y : Type 0} (p : Y → Bool) (f : X → Y) (xs : List X) → times p (map f xs) ≡ times (λ x. p (f x)) xs
count-map p f [] = refl
count-map p f (x ∷ xs) = ap (λ n. cond (p (f x)) 1 0 + n) (count-map p f xs)

-- a number isn't among those of later items
none_before : {X : Type 0} (p : ℕ × X → Bool) (n k : ℕ) (xs : List X) → n < k → times (λ x. x.0 == n) (filter p (numbered k xs)) ≡ 0
none_before p n k [] less = refl
none_before {X} p n k (x ∷ xs) less = by (p (k, x)) (none_before p n (k + 1) xs (omega arith))
  where
    other : (k == n) ≡ false
    other = grind (arith, nat_tests)

    by : (b : Bool) → times (λ x. x.0 == n) (filter p (numbered (k + 1) xs)) ≡ 0
        → times (λ x. x.0 == n) (cond b ((k, x) ∷ filter p (numbered (k + 1) xs)) (filter p (numbered (k + 1) xs))) ≡ 0
    by true more = rw (other, more) refl
    by false more = more

-- an item is among those that pass once, where it passes
once_among : {X : Type 0} (p : ℕ × X → Bool) (k i : ℕ) (xs : List X) (x : X) → slice_get xs i ≡ Some x
    → times (λ y. y.0 == k + i) (filter p (numbered k xs)) ≡ cond (p (k + i, x)) 1 0
once_among p k i [] x at = cc at
once_among {X} p k zero (y ∷ ys) x at = let here : k + 0 ≡ k = omega arith in let item : y ≡ x = cc at in rw (here, ← item) (by (p (k, y)) (none_before p k (k + 1) ys (omega arith)))
  where
    same : (k == k) ≡ true
    same = grind (arith, nat_tests)

    by : (b : Bool) → times (λ z. z.0 == k) (filter p (numbered (k + 1) ys)) ≡ 0
        → times (λ z. z.0 == k) (cond b ((k, y) ∷ filter p (numbered (k + 1) ys)) (filter p (numbered (k + 1) ys))) ≡ cond b 1 0
    by true none = rw (same, none) refl
    by false none = none
once_among {X} p k (suc i) (y ∷ ys) x at =
    let next : k + suc i ≡ (k + 1) + i = omega arith in
    rw next (by (p (k, y)) (once_among p (k + 1) i ys x at))
  where
    other : (k == (k + 1) + i) ≡ false
    other = grind (arith, nat_tests)

    by : (b : Bool) → times (λ z. z.0 == (k + 1) + i) (filter p (numbered (k + 1) ys)) ≡ cond (p ((k + 1) + i, x)) 1 0
        → times (λ z. z.0 == (k + 1) + i) (cond b ((k, y) ∷ filter p (numbered (k + 1) ys)) (filter p (numbered (k + 1) ys))) ≡ cond (p ((k + 1) + i, x)) 1 0
    by true more = rw other (omega (arith, more))
    by false more = more

-- ---- items with their numbers

-- an item that passes is the one of its number
item_there : {X : Type 0} (p : ℕ × X → Bool) (all xs : List X) (k place : ℕ) (y : ℕ × X) → ((i : ℕ) → slice_get all (k + i) ≡ slice_get xs i)
    → slice_get (filter p (numbered k xs)) place ≡ Some y → slice_get all y.0 ≡ Some y.1
item_there p all [] k place y from at = cc at
item_there {X} p all (x ∷ xs) k place y from at = by (p (k, x)) place at (λ q. item_there p all xs (k + 1) q y rest)
  where
    rest : (i : ℕ) → slice_get all ((k + 1) + i) ≡ slice_get xs i
    rest i = let next : (k + 1) + i ≡ k + suc i = omega arith in rw next (from (suc i))

    here : slice_get all k ≡ Some x
    here = let same : k + 0 ≡ k = omega arith in rw same at (from 0)

    by : (b : Bool) (q : ℕ) → slice_get (cond b ((k, x) ∷ filter p (numbered (k + 1) xs)) (filter p (numbered (k + 1) xs))) q ≡ Some y
        → ((r : ℕ) → slice_get (filter p (numbered (k + 1) xs)) r ≡ Some y → slice_get all y.0 ≡ Some y.1) → slice_get all y.0 ≡ Some y.1
    by true zero e more =
        let pair : ◌≡◌ {A = ℕ × X} (k, x) y = cc e in
        let number : k ≡ y.0 = ap (λ (z : ℕ × X). z.0) pair in
        let item : x ≡ y.1 = ap (λ (z : ℕ × X). z.1) pair in
        rw (← number, ← item) here
    by true (suc q) e more = more q e
    by false q e more = more q e

-- what stands at a place of a filtered list passes
passes_there : {X : Type 0} (p : X → Bool) (xs : List X) (place : ℕ) (y : X) → slice_get (filter p xs) place ≡ Some y → p y ≡ true
passes_there p [] place y at = cc at
passes_there {X} p (x ∷ xs) place y at = by (p x) refl place at (λ q. passes_there p xs q y)
  where
    by : (b : Bool) → p x ≡ b → (q : ℕ) → slice_get (cond b (x ∷ filter p xs) (filter p xs)) q ≡ Some y → ((r : ℕ) → slice_get (filter p xs) r ≡ Some y → p y ≡ true) → p y ≡ true
    by true is zero e more = let same : x ≡ y = cc e in rw same at is
    by true is (suc q) e more = more q e
    by false is q e more = more q e

-- what stands at a place of a list in order stands in the list
placed_at : {X : Type 0} (before : X → X → Bool) (x : X) (xs : List X) (place : ℕ) (y : X) → slice_get (placed before x xs) place ≡ Some y → (x ≡ y) ⊎ ((i : ℕ) × (slice_get xs i ≡ Some y))
placed_at before x [] zero y at = inl (cc at)
placed_at before x [] (suc place) y at = cc at
placed_at {X} before x (z ∷ zs) place y at = by (before z x) place at (λ q. placed_at before x zs q y)
  where
    by : (b : Bool) (q : ℕ) → slice_get (cond b (z ∷ placed before x zs) (x ∷ z ∷ zs)) q ≡ Some y
        → ((r : ℕ) → slice_get (placed before x zs) r ≡ Some y → (x ≡ y) ⊎ ((i : ℕ) × (slice_get zs i ≡ Some y))) → (x ≡ y) ⊎ ((i : ℕ) × (slice_get (z ∷ zs) i ≡ Some y))
    by true zero e more = inr (0, e)
    by true (suc q) e more = later (more q e)
      where
        later : (x ≡ y) ⊎ ((i : ℕ) × (slice_get zs i ≡ Some y)) → (x ≡ y) ⊎ ((i : ℕ) × (slice_get (z ∷ zs) i ≡ Some y))
        later (inl same) = inl same
        later (inr found) = inr (suc found.0, found.1)
    by false zero e more = inl (cc e)
    by false (suc q) e more = inr (q, e)

ordered_at : {X : Type 0} (before : X → X → Bool) (xs : List X) (place : ℕ) (y : X) → slice_get (in_order before xs) place ≡ Some y → (i : ℕ) × (slice_get xs i ≡ Some y)
ordered_at before [] place y at = cc at
ordered_at {X} before (x ∷ xs) place y at = by (placed_at before x (in_order before xs) place y at) (λ q. ordered_at before xs q y)
  where
    by : (x ≡ y) ⊎ ((i : ℕ) × (slice_get (in_order before xs) i ≡ Some y)) → ((r : ℕ) → slice_get (in_order before xs) r ≡ Some y → (i : ℕ) × (slice_get xs i ≡ Some y)) → (i : ℕ) × (slice_get (x ∷ xs) i ≡ Some y)
    by (inl same) more = (0, ap Some same)
    by (inr found) more = let it = more found.0 found.1 in (suc it.0, it.1)

-- what stands at a place of a list that was mapped
mapped_at : {X Y : Type 0} (f : X → Y) (xs : List X) (place : ℕ) (y : Y) → slice_get (map f xs) place ≡ Some y → (x : X) × (slice_get xs place ≡ Some x) × (f x ≡ y)
mapped_at f [] place y at = cc at
mapped_at f (x ∷ xs) zero y at = (x, refl, cc at)
mapped_at f (x ∷ xs) (suc place) y at = mapped_at f xs place y at

machines_at : (f : ℕ → ℕ) (k n v : ℕ) → v < n → slice_index (map f (range_with_len k n)) v ≡ f (k + v)
machines_at f k zero v less = absurd (omega arith)
machines_at f k (suc n) zero less = let same : k + 0 ≡ k = omega arith in rw same refl
machines_at f k (suc n) (suc v) less = let next : k + suc v ≡ (k + 1) + v = omega arith in rw next (machines_at f (k + 1) n v (omega arith))

there : {X : Type 0} (xs : List X) (i : ℕ) → i < length xs → (x : X) × (slice_get xs i ≡ Some x)
there [] i less = absurd (omega arith)
there (x ∷ xs) zero less = (x, refl)
there (x ∷ xs) (suc i) less = there xs i (omega arith)

-- what stands at the place of a chosen item
same_item : (chosen : List (ℕ × Vertex)) (all : List Vertex) (place v : ℕ) (x : ℕ × Vertex) → slice_get chosen place ≡ Some x → x.0 ≡ v → slice_get all x.0 ≡ Some x.1
    → slice_get (map (λ w. w.1) chosen) place ≡ slice_get all v
same_item chosen all place v x at is item = rw (slice_get-map (λ w. w.1) chosen place, at, ← is) (sym item)

same_list : (f : ℕ → List Entry) (chosen : List (ℕ × Vertex)) (place v : ℕ) (x : ℕ × Vertex) → slice_get chosen place ≡ Some x → x.0 ≡ v
    → slice_get (map (λ w. f w.0) chosen) place ≡ Some (f v)
same_list f chosen place v x at is = rw (slice_get-map (λ (w : ℕ × Vertex). f w.0) chosen place, at, ← is) refl

-- ---- parts

module _ (owners : List ℕ) (machines : ℕ) (g : PropertyGraph) (machine : ℕ) where
  vertex_once : (v : ℕ) → v < length g.vertices → count_by (λ n. n == v) (part_with owners machines g machine).numbers ≡ once_if (slice_index owners v == machine)
  vertex_once v less =
      let none : 0 + v ≡ v = omega arith in
      let x = there g.vertices v less in
      let once = rw none at (once_among (λ w. slice_index owners w.0 == machine) 0 v g.vertices x.0 x.1) in
      sym (counted (λ n. n == v) (part_with owners machines g machine).numbers) ∙ count-map (λ n. n == v) (λ w. w.0) (vertices_of owners machine g.vertices) ∙ once

  vertex_there : (place v : ℕ) → slice_get (part_with owners machines g machine).numbers place ≡ Some v
      → slice_get (part_with owners machines g machine).vertices place ≡ slice_get g.vertices v
  vertex_there place v at =
      let w = mapped_at (λ w. w.0) (vertices_of owners machine g.vertices) place v at in
      let item = item_there (λ w. slice_index owners w.0 == machine) g.vertices g.vertices 0 place w.0 (λ i. let none : 0 + i ≡ i = omega arith in rw none refl) w.1 in
      same_item (vertices_of owners machine g.vertices) g.vertices place v w.0 w.1 w.2 item

  list_there : (out : Bool) (place v : ℕ) → slice_get (part_with owners machines g machine).numbers place ≡ Some v
      → slice_get (lists_of out (part_with owners machines g machine)) place ≡ Some (entries_of owners out g.edges v)
  list_there out place v at = by out
    where
      w : (w : ℕ × Vertex) × (slice_get (vertices_of owners machine g.vertices) place ≡ Some w) × (w.0 ≡ v)
      w = mapped_at (λ w. w.0) (vertices_of owners machine g.vertices) place v at

      by : (o : Bool) → slice_get (lists_of o (part_with owners machines g machine)) place ≡ Some (entries_of owners o g.edges v)
      by true = same_list (entries_of owners true g.edges) (vertices_of owners machine g.vertices) place v w.0 w.1 w.2
      by false = same_list (entries_of owners false g.edges) (vertices_of owners machine g.vertices) place v w.0 w.1 w.2

  edge_once : (out : Bool) (place v n : ℕ) (e : Edge) → slice_get (part_with owners machines g machine).numbers place ≡ Some v → slice_get g.edges n ≡ Some e
      → ListsOnce out (slice_get (lists_of out (part_with owners machines g machine)) place) v n e
  edge_once out place v n e at edge =
      let none : 0 + n ≡ n = omega arith in
      let passing = filter (λ (f : ℕ × Edge). near_end out f.1 == v) (numbered 0 g.edges) in
      let once = rw none at (once_among (λ (f : ℕ × Edge). near_end out f.1 == v) 0 n g.edges e edge) in
      record {
        entries = entries_of owners out g.edges v;
        is = list_there out place v at;
        once = sym (counted (λ entry. entry.edge == n) (entries_of owners out g.edges v)) ∙ count-in_order (λ entry. entry.edge == n) (before_by entry_order) (map (entry_of owners out) passing) ∙ count-map (λ entry. entry.edge == n) (entry_of owners out) passing ∙ once;
      }

  entry_right : (out : Bool) (place v n : ℕ) (entry : Entry) → slice_get (part_with owners machines g machine).numbers place ≡ Some v → entry_at out (part_with owners machines g machine) place n ≡ Some entry
      → TellsEdge g owners out v entry
  entry_right out place v n entry at is =
      let passing = filter (λ (f : ℕ × Edge). near_end out f.1 == v) (numbered 0 g.edges) in
      let listed : slice_get (entries_of owners out g.edges v) n ≡ Some entry = ap (λ o. option_and_then (λ (list : List Entry). slice_get list n) o) (sym (list_there out place v at)) ∙ is in
      let found = ordered_at (before_by entry_order) (map (entry_of owners out) passing) n entry listed in
      let f = mapped_at (entry_of owners out) passing found.0 entry found.1 in
      let edge = item_there (λ (f : ℕ × Edge). near_end out f.1 == v) g.edges g.edges 0 found.0 f.0 (λ i. let none : 0 + i ≡ i = omega arith in rw none refl) f.1 in
      let ends = eqb-true (near_end out f.0.1) v (passes_there (λ (f : ℕ × Edge). near_end out f.1 == v) (numbered 0 g.edges) found.0 f.0 f.1) in
      let number : f.0.0 ≡ entry.edge = ap (λ (e : Entry). e.edge) f.2 in
      record { edge = f.0.1; is = rw number at edge; end = ends; told = sym f.2 ∙ ap (λ k. entry_of owners out (k, f.0.1)) number }

pub parts_are_the_graph : PartsAreTheGraph
parts_are_the_graph g owner machines machine = record {
  vertex_once = λ v less.
      let owned : slice_index (owners_in owner (length g.vertices) machines) v ≡ machine_of owner (length g.vertices) machines v =
      let none : 0 + v ≡ v = omega arith in rw none at (machines_at (λ w. machine_of owner (length g.vertices) machines w) 0 (length g.vertices) v less) in
      rw owned at (vertex_once (owners_in owner (length g.vertices) machines) machines g machine v less);
  vertex_there = vertex_there (owners_in owner (length g.vertices) machines) machines g machine;
  edge_once = edge_once (owners_in owner (length g.vertices) machines) machines g machine;
  entry_right = entry_right (owners_in owner (length g.vertices) machines) machines g machine;
}
