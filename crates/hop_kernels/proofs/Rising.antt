-- The lists of a graph's parts stand in the order of their other ends.
use Rattle.std.proofs.Common.{◌≡◌, ℕ, zero, suc, ◌<◌, ◌≤◌, Bool, true, false, cond, ◌==◌, List, [], ◌∷◌, length, get_or, map, Some, refl, sym, ap, subst, arith}
use Rattle.std.specs.Prelude.{slice_get}
use Rattle.std.specs.List.{AllByRecursion, filter, range_with_len}
use Rattle.std.specs.List.Sorted.{IsNonDecreasingBy}
use Rattle.std.specs.Option.{option_map}
use Rattle.std.specs.Ordering.{is_lt, nat_cmp, ordering_then}
use Rattle.std.specs.declared.cmp.Ordering.{Ordering}
use Rattle.std.specs.declared.cmp.Ordering.TheVariants.{Less, Equal, Greater}
use Rattle.std.proofs.lemmas.Cmp.{ranked}
use Rattle.std.proofs.lemmas.List.{get_or-map, length-map}
use Rattle.graph_tables.specs.Graph.{PropertyGraph, Vertex}
use Rattle.sorted_lists.specs.Sorted.{before_by, in_order, placed}
use Rattle.partition.specs.Parts.{Entry, MachinePart, entries_of, entry_of, entry_order, link_of_entry, lists_of, near_end, numbered, owners_in, part_of, vertices_of}
use Rattle.partition.specs.declared.link.Link.{Link}
use Rattle.partition.specs.declared.owner.Owner.{Owner}
use Rattle.hop_kernels.specs.Over.{AreParts}
use Rattle.hop_kernels.specs.Spots.{AreRising}

low : (p q : ℕ) (o c : Ordering) → o ≡ nat_cmp p q → is_lt (ordering_then o c) ≡ true → p ≤ q
low p q Less c is lt = let r : p < q = ranked p q Less is in omega arith
low p q Equal c is lt = let r : p ≡ q = ranked p q Equal is in omega arith
low p q Greater c is lt = cc lt

high : (p q : ℕ) (o c : Ordering) → o ≡ nat_cmp p q → is_lt (ordering_then o c) ≡ false → q ≤ p
high p q Less c is lt = cc lt
high p q Equal c is lt = let r : p ≡ q = ranked p q Equal is in omega arith
high p q Greater c is lt = let r : q < p = ranked p q Greater is in omega arith

abbrev Rising : List Entry → Type 0
Rising [] = Unit {0}
Rising (e ∷ es) = AllByRecursion (λ (f : Entry). e.other ≤ f.other) es × Rising es

All-placed : (P : Entry → Type 0) (e : Entry) (es : List Entry) → P e → AllByRecursion P es → AllByRecursion P (placed (before_by entry_order) e es)
All-placed P e [] here all = (here, tt)
All-placed P e (f ∷ es) here all = by (before_by entry_order f e) (All-placed P e es here all.1) where
  by : (b : Bool) → AllByRecursion P (placed (before_by entry_order) e es) → AllByRecursion P (cond b (f ∷ placed (before_by entry_order) e es) (e ∷ f ∷ es))
  by true more = (all.0, more)
  by false more = (here, all)

All-higher : (n m : ℕ) (es : List Entry) → n ≤ m → AllByRecursion (λ (f : Entry). m ≤ f.other) es → AllByRecursion (λ (f : Entry). n ≤ f.other) es
All-higher n m [] le all = tt
All-higher n m (f ∷ es) le all = (omega (arith, le, all.0), All-higher n m es le all.1)

rising-placed : (e : Entry) (es : List Entry) → Rising es → Rising (placed (before_by entry_order) e es)
rising-placed e [] up = (tt, tt)
rising-placed e (f ∷ es) up = by (before_by entry_order f e) refl (rising-placed e es up.1) where
  by : (b : Bool) → before_by entry_order f e ≡ b → Rising (placed (before_by entry_order) e es) → Rising (cond b (f ∷ placed (before_by entry_order) e es) (e ∷ f ∷ es))
  by true is more = (All-placed (λ (g : Entry). f.other ≤ g.other) e es (low f.other e.other (nat_cmp f.other e.other) (nat_cmp f.edge e.edge) refl is) up.0, more)
  by false is more =
      let here : e.other ≤ f.other = high f.other e.other (nat_cmp f.other e.other) (nat_cmp f.edge e.edge) refl is in
      ((here, All-higher e.other f.other es here up.0), up)

rising-in_order : (es : List Entry) → Rising (in_order (before_by entry_order) es)
rising-in_order [] = tt
rising-in_order (e ∷ es) = rising-placed e (in_order (before_by entry_order) es) (rising-in_order es)

All-at : (n : ℕ) (es : List Entry) (j : ℕ) (d : Entry) → AllByRecursion (λ (f : Entry). n ≤ f.other) es → j < length es → n ≤ (get_or es j d).other
All-at n [] j d all below = absurd (omega arith)
All-at n (f ∷ es) zero d all below = all.0
All-at n (f ∷ es) (suc j) d all below = All-at n es j d all.1 (omega arith)

rising-is : (es : List Entry) → Rising es → IsNonDecreasingBy (λ (e : Entry). e.other) es
rising-is [] up i j d le below = absurd (omega arith)
rising-is (e ∷ es) up zero zero d le below = omega arith
rising-is (e ∷ es) up zero (suc j) d le below = All-at e.other es j d up.0 (omega arith)
rising-is (e ∷ es) up (suc i) zero d le below = absurd (omega arith)
rising-is (e ∷ es) up (suc i) (suc j) d le below = rising-is es up.1 i j d (omega arith) (omega arith)

-- ---- the parts of a graph

lists-rising : (owners : List ℕ) (out : Bool) (g : PropertyGraph) (vs : List (ℕ × Vertex))
    → AllByRecursion (IsNonDecreasingBy (λ (e : Entry). e.other)) (map (λ v. entries_of owners out g.edges v.0) vs)
lists-rising owners out g [] = tt
lists-rising owners out g (v ∷ vs) = (
  rising-is (entries_of owners out g.edges v.0) (rising-in_order (map (entry_of owners out) (filter (λ e. near_end out e.1 == v.0) (numbered 0 g.edges)))),
  lists-rising owners out g vs,
)

rising-of : (g : PropertyGraph) (o : Owner) (machines : ℕ) (ms : List ℕ) → AllByRecursion AreRising (map (λ m. part_of g o machines m) ms)
rising-of g o machines [] = tt
rising-of g o machines (m ∷ ms) =
    let owners = owners_in o (length g.vertices) machines in
    ((lists-rising owners true g (vertices_of owners m g.vertices), lists-rising owners false g (vertices_of owners m g.vertices)), rising-of g o machines ms)

pub parts-rising : (parts : List MachinePart) → AreParts parts → AllByRecursion AreRising parts
parts-rising parts are = subst (AllByRecursion AreRising) (sym are.parts_are) (rising-of are.graph are.owner are.machines (range_with_len 0 are.machines))

-- ---- the links of a list

links-of : (es : List Entry) → IsNonDecreasingBy (λ (e : Entry). e.other) es → IsNonDecreasingBy (λ (l : Link). l.other) (map link_of_entry es)
links-of [] up i j d le below = absurd (omega arith)
links-of (e ∷ es) up i j d le below =
    let less : j < length (e ∷ es) = subst (λ n. j < n) (length-map (e ∷ es) link_of_entry) below in
    subst (λ n. n ≤ (get_or (map link_of_entry (e ∷ es)) j d).other) (sym (ap (λ (l : Link). l.other) (get_or-map link_of_entry (e ∷ es) i e d (omega arith))))
    (subst (λ n. (get_or (e ∷ es) i e).other ≤ n) (sym (ap (λ (l : Link). l.other) (get_or-map link_of_entry (e ∷ es) j e d less))) (up i j e le less))

in_lists : (lists : List (List Entry)) (place : ℕ) (links : List Link) → AllByRecursion (IsNonDecreasingBy (λ (e : Entry). e.other)) lists
    → option_map (map link_of_entry) (slice_get lists place) ≡ Some links → IsNonDecreasingBy (λ (l : Link). l.other) links
in_lists [] place links all is = cc is
in_lists (es ∷ lists) zero links all is =
    let same : map link_of_entry es ≡ links = cc is in
    subst (IsNonDecreasingBy (λ (l : Link). l.other)) same (links-of es all.0)
in_lists (es ∷ lists) (suc place) links all is = in_lists lists place links all.1 is

pub links-rising : (part : MachinePart) (out : Bool) (place : ℕ) (links : List Link) → AreRising part → option_map (map link_of_entry) (slice_get (lists_of out part) place) ≡ Some links
    → IsNonDecreasingBy (λ (l : Link). l.other) links
links-rising part true place links up is = in_lists part.outgoing place links up.0 is
links-rising part false place links up is = in_lists part.incoming place links up.1 is
