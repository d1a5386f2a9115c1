-- The matches are the assignments that fit, each once and in ascending order.
use Rattle.std.proofs.Common.{◌≡◌, ◌<◌, ◌≤◌, ◌+◌, ◌↔◌, ◌⊎◌, inl, inr, ℕ, zero, suc, Bool, true, false, List, [], ◌∷◌, ◌++◌, map, refl, sym, arith, subst, ◌∙◌, nat_lt}
use Rattle.std.specs.Cmp.{nat_cmp_is}
use Rattle.std.specs.List.{AllByRecursion, Contains, flat_map, range_with_len}
use Rattle.std.specs.List.Sorted.{IsStrictlySortedBy}
use Rattle.std.specs.Ordering.{nat_cmp}
use Rattle.std.specs.declared.cmp.Ordering.TheVariants.{Less, Equal}
use Rattle.std.proofs.lemmas.Bool.{lt-ltb, ltb-false, ltb-true}
use Rattle.std.proofs.lemmas.List.Kept.{IsStrictlySortedBy-filter}
use Rattle.answer_rows.specs.Orders.{numbers_order}
use Rattle.graph_tables.specs.Graph.{PropertyGraph}
use Rattle.typed_query.specs.declared.query.Query.{Query}
use Rattle.pgql_meaning.specs.Answer.{all_matches}
use Rattle.pgql_meaning.specs.Assignments.{assignments, ranges_of}
use Rattle.pgql_meaning.specs.Fits.{fits}
use Rattle.pgql_meaning.specs.Laws.{AreBelow, IsMatch}
use Rattle.sorted_lists.proofs.Among.{Among, Among-contained, Among-either, Among-filter, Among-filtered, Among-left, Among-map, Among-mapped, Among-right, Contains-among}

-- the lists that begin with the numbers of a range
abbrev fronted : List (List ℕ) → ℕ → ℕ → List (List ℕ)
fronted lists from count = flat_map (λ i. map (λ a. i ∷ a) lists) (range_with_len from count)

-- ---- which lists of numbers there are

fronted-among : (lists : List (List ℕ)) (rest : List ℕ) → Among lists rest → (from count i : ℕ) → from ≤ i → i < from + count → Among (fronted lists from count) (i ∷ rest)
fronted-among lists rest among from zero i low high = absurd (omega (arith, low, high))
fronted-among lists rest among from (suc count) i low high =
    by (λ above. fronted-among lists rest among (from + 1) count i above (omega (arith, high))) (nat_lt from i) refl where
      by : ((from + 1 ≤ i) → Among (fronted lists (from + 1) count) (i ∷ rest)) → (b : Bool) → nat_lt from i ≡ b → Among (fronted lists from (suc count)) (i ∷ rest)
      by later true is = Among-right (map (λ a. from ∷ a) lists) (fronted lists (from + 1) count) (i ∷ rest) (later (omega (arith, ltb-true from i is)))
      by later false is =
          let here : from ≡ i = omega (arith, low, ltb-false from i is) in
          Among-left (map (λ a. from ∷ a) lists) (fronted lists (from + 1) count) (i ∷ rest)
          (subst (λ k. Among (map (λ a. from ∷ a) lists) (k ∷ rest)) here (Among-map (λ a. from ∷ a) lists rest among))

pub Among-assignments : (bounds numbers : List ℕ) → AreBelow bounds numbers → Among (assignments bounds) numbers
Among-assignments [] [] below = inl refl
Among-assignments [] (i ∷ numbers) below = absurd below
Among-assignments (n ∷ bounds) [] below = absurd below
Among-assignments (n ∷ bounds) (i ∷ numbers) below =
    fronted-among (assignments bounds) numbers (Among-assignments bounds numbers below.1) 0 n i (omega arith) (omega (arith, below.0))

-- one number before another list, if that is one of these lists
abbrev BeginsBelow : List (List ℕ) → ℕ → List ℕ → Type 0
BeginsBelow lists bound [] = ⊥
BeginsBelow lists bound (i ∷ rest) = (i < bound) × Among lists rest

begins-below : (lists : List (List ℕ)) (numbers : List ℕ) (from count : ℕ) → Among (fronted lists from count) numbers → BeginsBelow lists (from + count) numbers
begins-below lists numbers from zero among = absurd among
begins-below lists numbers from (suc count) among =
    by (λ later. begins-below lists numbers (from + 1) count later) (Among-either (map (λ a. from ∷ a) lists) (fronted lists (from + 1) count) numbers among) where
      by : (Among (fronted lists (from + 1) count) numbers → BeginsBelow lists ((from + 1) + count) numbers)
          → Among (map (λ a. from ∷ a) lists) numbers ⊎ Among (fronted lists (from + 1) count) numbers → BeginsBelow lists (from + suc count) numbers
      by rest (inl here) =
          let found = Among-mapped (λ a. from ∷ a) lists numbers here in
          subst (BeginsBelow lists (from + suc count)) found.2 (omega arith, found.1)
      by rest (inr later) = subst (λ bound. BeginsBelow lists bound numbers) (omega arith) (rest later)

pub AreBelow-among : (bounds numbers : List ℕ) → Among (assignments bounds) numbers → AreBelow bounds numbers
AreBelow-among [] [] among = tt
AreBelow-among [] (i ∷ numbers) (inl is) = absurd cc
AreBelow-among [] (i ∷ numbers) (inr among) = absurd among
AreBelow-among (n ∷ bounds) [] among = absurd (begins-below (assignments bounds) [] 0 n among)
AreBelow-among (n ∷ bounds) (i ∷ numbers) among =
    let begins = begins-below (assignments bounds) (i ∷ numbers) 0 n among in
    (omega (arith, begins.0), AreBelow-among bounds numbers begins.1)

pub matches_fit : (texts : List (List ℕ)) (graph : PropertyGraph) (query : Query) (assignment : List ℕ)
    → Contains (all_matches texts graph query) assignment ↔ IsMatch texts graph query assignment
matches_fit texts graph query assignment = (there, back) where
  there : Contains (all_matches texts graph query) assignment → IsMatch texts graph query assignment
  there contained =
      let among = Among-contained (all_matches texts graph query) assignment contained in
      let both = Among-filtered (fits texts graph query) (assignments (ranges_of graph query.variables)) assignment among in
      record { names_elements = AreBelow-among (ranges_of graph query.variables) assignment both.0; does_fit = both.1 }

  back : IsMatch texts graph query assignment → Contains (all_matches texts graph query) assignment
  back is =
      Contains-among (all_matches texts graph query) assignment
      (Among-filter (fits texts graph query) (assignments (ranges_of graph query.variables)) assignment
      (Among-assignments (ranges_of graph query.variables) assignment is.names_elements) is.does_fit)

-- ---- in which order they stand

itself : (i : ℕ) → nat_cmp i i ≡ Equal
itself i = sym (nat_cmp_is i i Equal refl)

same_front : (i : ℕ) (xs ys : List ℕ) → numbers_order (i ∷ xs) (i ∷ ys) ≡ numbers_order xs ys
same_front i xs ys = rw (itself i) refl

less : (i k : ℕ) → i < k → nat_cmp i k ≡ Less
less i k below = rw (lt-ltb i k below) refl

less_front : (i k : ℕ) (xs ys : List ℕ) → i < k → numbers_order (i ∷ xs) (k ∷ ys) ≡ Less
less_front i k xs ys below = rw (less i k below) refl

-- the list comes before each of these
abbrev ComesBefore : List ℕ → List (List ℕ) → Type 0
ComesBefore xs lists = AllByRecursion (λ ys. numbers_order xs ys ≡ Less) lists

before-both : (xs : List ℕ) (lists others : List (List ℕ)) → ComesBefore xs lists → ComesBefore xs others → ComesBefore xs (lists ++ others)
before-both xs [] others all rest = rest
before-both xs (ys ∷ lists) others all rest = (all.0, before-both xs lists others all.1 rest)

sorted-both : (lists others : List (List ℕ)) → IsStrictlySortedBy numbers_order lists → IsStrictlySortedBy numbers_order others
    → AllByRecursion (λ xs. ComesBefore xs others) lists → IsStrictlySortedBy numbers_order (lists ++ others)
unfolding IsStrictlySortedBy
sorted-both [] others sorted sorted' apart = sorted'
sorted-both (xs ∷ lists) others sorted sorted' apart =
    (before-both xs lists others sorted.0 apart.0, sorted-both lists others sorted.1 sorted' apart.1)

before-fronts : (i : ℕ) (xs : List ℕ) (lists : List (List ℕ)) → ComesBefore xs lists → ComesBefore (i ∷ xs) (map (λ a. i ∷ a) lists)
before-fronts i xs [] all = tt
before-fronts i xs (ys ∷ lists) all = (same_front i xs ys ∙ all.0, before-fronts i xs lists all.1)

sorted-fronts : (i : ℕ) (lists : List (List ℕ)) → IsStrictlySortedBy numbers_order lists → IsStrictlySortedBy numbers_order (map (λ a. i ∷ a) lists)
unfolding IsStrictlySortedBy
sorted-fronts i [] sorted = tt
sorted-fronts i (xs ∷ lists) sorted = (before-fronts i xs lists sorted.0, sorted-fronts i lists sorted.1)

before-greater : (i k : ℕ) → i < k → (xs : List ℕ) (lists : List (List ℕ)) → ComesBefore (i ∷ xs) (map (λ a. k ∷ a) lists)
before-greater i k below xs [] = tt
before-greater i k below xs (ys ∷ lists) = (less_front i k xs ys below, before-greater i k below xs lists)

before-fronted : (i : ℕ) (xs : List ℕ) (lists : List (List ℕ)) (from count : ℕ) → i < from → ComesBefore (i ∷ xs) (fronted lists from count)
before-fronted i xs lists from zero below = tt
before-fronted i xs lists from (suc count) below =
    before-both (i ∷ xs) (map (λ a. from ∷ a) lists) (fronted lists (from + 1) count) (before-greater i from below xs lists) (before-fronted i xs lists (from + 1) count (omega (arith, below)))

apart : (i : ℕ) (lists fronts : List (List ℕ)) (from count : ℕ) → i < from → AllByRecursion (λ xs. ComesBefore xs (fronted lists from count)) (map (λ a. i ∷ a) fronts)
apart i lists [] from count below = tt
apart i lists (xs ∷ fronts) from count below = (before-fronted i xs lists from count below, apart i lists fronts from count below)

sorted-fronted : (lists : List (List ℕ)) (from count : ℕ) → IsStrictlySortedBy numbers_order lists → IsStrictlySortedBy numbers_order (fronted lists from count)
unfolding IsStrictlySortedBy
sorted-fronted lists from zero sorted = tt
sorted-fronted lists from (suc count) sorted =
    sorted-both (map (λ a. from ∷ a) lists) (fronted lists (from + 1) count) (sorted-fronts from lists sorted) (sorted-fronted lists (from + 1) count sorted)
    (apart from lists lists (from + 1) count (omega arith))

sorted-assignments : (bounds : List ℕ) → IsStrictlySortedBy numbers_order (assignments bounds)
unfolding IsStrictlySortedBy
sorted-assignments [] = (tt, tt)
sorted-assignments (n ∷ bounds) = sorted-fronted (assignments bounds) 0 n (sorted-assignments bounds)

pub matches_ascend : (texts : List (List ℕ)) (graph : PropertyGraph) (query : Query) → IsStrictlySortedBy numbers_order (all_matches texts graph query)
matches_ascend texts graph query =
    IsStrictlySortedBy-filter numbers_order (fits texts graph query) (assignments (ranges_of graph query.variables)) (sorted-assignments (ranges_of graph query.variables))
