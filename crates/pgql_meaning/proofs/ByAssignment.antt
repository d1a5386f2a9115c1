-- Without order keys and DISTINCT the order of assignments is kept.
use Rattle.std.proofs.Common.{◌≡◌, ℕ, Bool, false, List, [], ◌∷◌, map, refl, ap, ◌∙◌}
use Rattle.std.specs.List.{AllByRecursion}
use Rattle.std.specs.List.Sorted.{IsStrictlySortedBy}
use Rattle.std.specs.Ordering.{is_lt, ordering_reverse}
use Rattle.std.specs.declared.cmp.Ordering.TheVariants.{Less}
use Rattle.std.proofs.lemmas.Cmp.{nat_list_cmp_total}
use Rattle.sorted_lists.specs.Sorted.{before_by, in_order}
use Rattle.sorted_lists.proofs.Ascending.{Ascends, in_order-ascending}
use Rattle.answer_rows.specs.Arranged.{Shown, kept, limited, match_order}
use Rattle.answer_rows.specs.Orders.{numbers_order}
use Rattle.graph_tables.specs.Graph.{PropertyGraph}
use Rattle.typed_query.specs.declared.query.Query.{Query}
use Rattle.pgql_meaning.specs.Answer.{answer_of, all_matches, arrangement_of, row_of, shown}
use Rattle.pgql_meaning.proofs.Matches.{matches_ascend}

map-rows : (texts : List (List ℕ)) (graph : PropertyGraph) (query : Query) (matches : List (List ℕ))
    → map (λ m. m.row) (map (shown texts graph query) matches) ≡ map (row_of texts graph query) matches
map-rows texts graph query [] = refl
map-rows texts graph query (x ∷ matches) = ap (λ rows. row_of texts graph query x ∷ rows) (map-rows texts graph query matches)

-- by the elements' numbers alone
abbrev by_numbers : Shown → Shown → Bool
by_numbers a b = is_lt (numbers_order a.numbers b.numbers)

module _ (texts : List (List ℕ)) (graph : PropertyGraph) (query : Query) where
  later : (x y : List ℕ) → numbers_order x y ≡ Less → by_numbers (shown texts graph query y) (shown texts graph query x) ≡ false
  later x y is = ap is_lt (nat_list_cmp_total.antisymm y x ∙ ap ordering_reverse is)

  behind : (x : List ℕ) (ys : List (List ℕ)) → AllByRecursion (λ y. numbers_order x y ≡ Less) ys
      → AllByRecursion (λ m. by_numbers m (shown texts graph query x) ≡ false) (map (shown texts graph query) ys)
  behind x [] all = tt
  behind x (y ∷ ys) all = (later x y all.0, behind x ys all.1)

  ascends : (xs : List (List ℕ)) → IsStrictlySortedBy numbers_order xs → Ascends by_numbers (map (shown texts graph query) xs)
  unfolding IsStrictlySortedBy
  ascends [] sorted = tt
  ascends (x ∷ xs) sorted = (behind x xs sorted.0, ascends xs sorted.1)

  -- the order of such a query is that of the numbers
  in_order-plain : query.keys ≡ [] → query.distinct ≡ false → (matches : List Shown)
      → in_order (before_by (match_order texts (arrangement_of query))) (kept texts query.distinct matches) ≡ in_order by_numbers matches
  in_order-plain no_keys plain matches =
      ap (λ keys. in_order (before_by (match_order texts (record { downs = map (λ key. key.1) keys; distinct = query.distinct; limit = query.limit }))) (kept texts query.distinct matches)) no_keys
      ∙ ap (λ d. in_order (before_by (match_order texts (record { downs = []; distinct = d; limit = query.limit }))) (kept texts d matches)) plain

  pub rows_stand_by_assignment : query.keys ≡ [] → query.distinct ≡ false
      → answer_of texts graph query ≡ limited query.limit (map (row_of texts graph query) (all_matches texts graph query))
  rows_stand_by_assignment no_keys plain =
      let matches = map (shown texts graph query) (all_matches texts graph query) in
      ap (λ rows. limited query.limit (map (λ (m : Shown). m.row) rows))
      (in_order-plain no_keys plain matches ∙ in_order-ascending by_numbers matches (ascends (all_matches texts graph query) (matches_ascend texts graph query)))
      ∙ ap (limited query.limit) (map-rows texts graph query (all_matches texts graph query))
