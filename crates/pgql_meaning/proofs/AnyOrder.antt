-- The matches of a query give its answer in whatever order they come.
use Rattle.std.proofs.Common.{◌≡◌, ◌<◌, ◌∷◌, ℕ, true, false, List, [], All, length, map, zero, suc, refl, sym, ap, arith, subst, ◌∙◌}
use Rattle.std.specs.List.{Contains, IsDistinct, slice_index_or}
use Rattle.std.specs.List.Sorted.{IsPermutation}
use Rattle.std.specs.Ordering.{is_eq}
use Rattle.std.specs.Str.{bytes_eq}
use Rattle.std.proofs.lemmas.List.Elements.{All-cons, All-head, All-nil, All-tail}
use Rattle.std.proofs.lemmas.List.Sorted.{IsPermutation-map}
use Rattle.std.proofs.lemmas.Map.Lookups.{exact_bytes}
use Rattle.adfs_base.specs.declared.value.Value.{Value}
use Rattle.answer_rows.specs.Arranged.{Shown, match_order, rows_of, rows_order, ties_order}
use Rattle.answer_rows.specs.Orders.{keys_order, numbers_order, row_order}
use Rattle.answer_rows.proofs.Kept.{second_by}
use Rattle.answer_rows.proofs.Permuted.{bare, rows_of-permuted}
use Rattle.answer_rows.proofs.Ties.{equal_by, row-one}
use Rattle.graph_tables.specs.Graph.{PropertyGraph}
use Rattle.typed_query.specs.Val.{val}
use Rattle.typed_query.specs.declared.expr.Expr.{Expr}
use Rattle.typed_query.specs.declared.query.Query.{Query}
use Rattle.pgql_meaning.specs.Answer.{answer_of, all_matches, arrangement_of, order_of, row_of, shown}
use Rattle.pgql_meaning.specs.Captured.{captured}
use Rattle.pgql_meaning.specs.Shown.{HasMeaning, HasShown}
use Rattle.pgql_meaning.proofs.Validity.{row-valid}

-- ---- where each key is a column, equal rows have equal keys

module _ (texts : List (List ℕ)) (u v : List Value) where
  same_column : {Y : Type 0} (columns : List (Expr × Y)) → map (λ column. val texts u column.0) columns ≡ map (λ column. val texts v column.0) columns
      → (e : Expr) (k : ℕ) → k < length (map (λ column. column.0) columns) → slice_index_or (map (λ column. column.0) columns) k e ≡ e → val texts u e ≡ val texts v e
  same_column [] same e k within is = absurd (omega (arith, within))
  same_column (column ∷ columns) same e zero within is =
      let first : val texts u column.0 ≡ val texts v column.0 = cc same in
      subst (λ x. val texts u x ≡ val texts v x) is first
  same_column (column ∷ columns) same e (suc k) within is =
      let rest : map (λ c. val texts u c.0) columns ≡ map (λ c. val texts v c.0) columns = cc same in
      same_column columns rest e k (omega (arith, within)) is

  same_keys : {Y Z : Type 0} (columns : List (Expr × Y)) → map (λ column. val texts u column.0) columns ≡ map (λ column. val texts v column.0) columns
      → (keys : List (Expr × Z)) → All (λ key. Contains (map (λ column. column.0) columns) key.0) keys
      → map (λ key. val texts u key.0) keys ≡ map (λ key. val texts v key.0) keys
  same_keys columns same [] selected = refl
  same_keys columns same (key ∷ keys) selected =
      let here = All-head (λ key. Contains (map (λ column. column.0) columns) key.0) key keys selected in
      let first = same_column columns same key.0 here.0 here.1 here.2 in
      rw (first, same_keys columns same keys (All-tail (λ key. Contains (map (λ column. column.0) columns) key.0) key keys selected)) refl

-- ---- matches that tie

module _ (texts : List (List ℕ)) (graph : PropertyGraph) (query : Query) where
  -- what an assignment shows
  abbrev IsOf : Shown → Type 0
  IsOf m = (assignment : List ℕ) × (m ≡ shown texts graph query assignment)

  All-of : (matches : List (List ℕ)) → All IsOf (map (shown texts graph query) matches)
  All-of [] = All-nil IsOf
  All-of (assignment ∷ matches) = All-cons IsOf (shown texts graph query assignment) (map (shown texts graph query) matches) (assignment, refl) (All-of matches)

  -- two that tie by their numbers are one
  by_match : (arrangement_of query).distinct ≡ false → (a b : Shown) → IsOf a → IsOf b → is_eq (match_order texts (arrangement_of query) a b) ≡ true → a ≡ b
  by_match plain a b told told' tie =
      let arrangement = arrangement_of query in
      let second : is_eq (ties_order texts arrangement.distinct a b) ≡ true = second_by (keys_order texts arrangement.downs a.keys b.keys) (ties_order texts arrangement.distinct a b) tie in
      let numbers : is_eq (numbers_order a.numbers b.numbers) ≡ true = subst (λ d. is_eq (ties_order texts d a b) ≡ true) plain second in
      let same : a.numbers ≡ b.numbers = exact_bytes a.numbers b.numbers (equal_by (numbers_order a.numbers b.numbers) numbers) in
      let one : told.0 ≡ told'.0 = sym (ap (λ (m : Shown). m.numbers) told.1) ∙ same ∙ ap (λ (m : Shown). m.numbers) told'.1 in
      told.1 ∙ ap (shown texts graph query) one ∙ sym told'.1

  module _ (distinct : IsDistinct bytes_eq texts) (graph_shown : HasShown texts graph) (meaning : HasMeaning texts query)
      (selected : query.distinct ≡ true → All (λ key. Contains (map (λ column. column.0) query.select) key.0) query.keys) where
    -- two with equal rows are one, apart from their numbers
    by_assignments : query.distinct ≡ true → (x y : List ℕ)
        → is_eq (rows_order texts (shown texts graph query x) (shown texts graph query y)) ≡ true → bare (shown texts graph query x) ≡ bare (shown texts graph query y)
    by_assignments is x y tie =
        let same : row_of texts graph query x ≡ row_of texts graph query y =
        row-one texts distinct (row_of texts graph query x) (row_of texts graph query y)
        (row-valid texts graph graph_shown query meaning x) (row-valid texts graph graph_shown query meaning y)
        (equal_by (row_order texts (row_of texts graph query x) (row_of texts graph query y)) tie) in
        let keys : order_of texts graph query x ≡ order_of texts graph query y =
        same_keys texts (captured graph query x) (captured graph query y) query.select same query.keys (selected is) in
        rw (same, keys) refl

    by_row : query.distinct ≡ true → (a b : Shown) → IsOf a → IsOf b → is_eq (rows_order texts a b) ≡ true → bare a ≡ bare b
    by_row is a b told told' tie =
        let tie' = subst (λ m. is_eq (rows_order texts m b) ≡ true) told.1 tie in
        let tie'' = subst (λ m. is_eq (rows_order texts (shown texts graph query told.0) m) ≡ true) told'.1 tie' in
        ap bare told.1 ∙ by_assignments is told.0 told'.0 tie'' ∙ sym (ap bare told'.1)

    pub answer_of-permuted : (matches : List (List ℕ)) → IsPermutation (all_matches texts graph query) matches
        → rows_of texts (arrangement_of query) (map (shown texts graph query) matches) ≡ answer_of texts graph query
    answer_of-permuted matches permuted =
        let whole = map (shown texts graph query) (all_matches texts graph query) in
        sym (rows_of-permuted texts (arrangement_of query) IsOf by_row by_match whole (map (shown texts graph query) matches)
        (IsPermutation-map (shown texts graph query) (all_matches texts graph query) matches permuted) (All-of (all_matches texts graph query)))
