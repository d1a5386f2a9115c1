-- What an answer shows means something under the texts.
use Rattle.std.proofs.Common.{◌≡◌, ◌++◌, ℕ, Bool, true, false, cond, List, [], ◌∷◌, All, Option, Some, None, map, zero, suc, refl, subst, nat_eq}
use Rattle.std.specs.List.{AllByRecursion, slice_get}
use Rattle.std.specs.Option.{option_and_then, option_map_or}
use Rattle.std.proofs.lemmas.List.Elements.{All-cons, All-head, All-nil, All-tail}
use Rattle.adfs_base.specs.declared.value.Value.{Value}
use Rattle.adfs_base.specs.declared.value.Value.TheVariants as value
use Rattle.answer_rows.proofs.Every.{All-rows_of}
use Rattle.element_store.specs.Columns.{Cell, value_of}
use Rattle.element_store.specs.Elements.{Element}
use Rattle.graph_tables.specs.Graph.{IsShown, PropertyGraph, without_ends}
use Rattle.typed_query.specs.Parts.{HasValidConstants}
use Rattle.typed_query.specs.Val.{val}
use Rattle.typed_query.specs.declared.expr.Expr.{Expr}
use Rattle.typed_query.specs.declared.query.Capture.{Capture}
use Rattle.typed_query.specs.declared.query.Query.{Query}
use Rattle.typed_query.specs.declared.query.Variable.{Variable}
use Rattle.typed_query.specs.declared.query.What.{What}
use Rattle.typed_query.specs.declared.query.What.TheVariants as what
use Rattle.typed_query.proofs.Validity.{value-valid}
use Rattle.value_text.specs.Valid.{IsValid}
use Rattle.pgql_meaning.specs.Answer.{answer_of, all_matches, arrangement_of, row_of, shown as assignment_shown}
use Rattle.pgql_meaning.specs.Captured.{captured, captured_value, element_at, number_of, use_of}
use Rattle.pgql_meaning.specs.Shown.{AreShown, HasMeaning, HasShown}

-- ---- lists

All-each : {X : Type 0} (P : X → Type 0) (xs : List X) → AllByRecursion P xs → All P xs
All-each P [] all = All-nil P
All-each P (x ∷ xs) all = All-cons P x xs all.0 (All-each P xs all.1)

All-back : {X : Type 0} (P : X → Type 0) (xs ys : List X) → All P (xs ++ ys) → All P ys
All-back P [] ys all = all
All-back P (x ∷ xs) ys all = All-back P xs ys (All-tail P x (xs ++ ys) all)

All-fore : {X : Type 0} (P : X → Type 0) (xs ys : List X) → All P (xs ++ ys) → AllByRecursion P xs
All-fore P [] ys all = tt
All-fore P (x ∷ xs) ys all = (All-head P x (xs ++ ys) all, All-fore P xs ys (All-tail P x (xs ++ ys) all))

All-parts : {X : Type 0} (P : X → Type 0) (xs : List X) → All P xs → AllByRecursion P xs
All-parts P [] all = tt
All-parts P (x ∷ xs) all = (All-head P x xs all, All-parts P xs (All-tail P x xs all))

-- what holds of each holds of the one at a place, if there is one
at_place : {X : Type 0} (P : X → Type 0) (xs : List X) → AllByRecursion P xs → (i : ℕ) (x : X) → slice_get xs i ≡ Some x → P x
at_place P [] all i x is = absurd cc
at_place P (y ∷ xs) all zero x is = let same : y ≡ x = cc in subst P same all.0
at_place P (y ∷ xs) all (suc i) x is = at_place P xs all.1 i x is

-- ---- captured values

module _ (texts : List (List ℕ)) where
  value_of-valid : (values : List (ℕ × Cell)) → AllByRecursion (λ v. IsValid texts v.1) values → (property : ℕ) → IsValid texts (value_of values property)
  value_of-valid [] all property = tt
  value_of-valid (v ∷ vs) all property =
      elim (nat_eq property v.0) as (λ b. IsValid texts (cond b v.1 (value_of vs property))) [ true ↦ all.0 | false ↦ value_of-valid vs all.1 property ]

  use_of-valid : (what : What) (element : Element) → IsShown texts element → IsValid texts (use_of what element)
  use_of-valid (what.Property property kind) element shown = value_of-valid element.values shown.1 property
  use_of-valid what.Id element shown = tt
  use_of-valid what.Label element shown = shown.0

  module _ (graph : PropertyGraph) (shown : HasShown texts graph) (query : Query) where
    element-shown : (edge : Bool) (n : ℕ) (element : Element) → cond edge (slice_get (without_ends graph.edges) n) (slice_get graph.vertices n) ≡ Some element → IsShown texts element
    element-shown true n element is = at_place (IsShown texts) (without_ends graph.edges) shown.edges_shown n element is
    element-shown false n element is = at_place (IsShown texts) graph.vertices shown.vertices_shown n element is

    by_element : (what : What) (x : Variable) (n : ℕ) (found : Option Element) → element_at graph x n ≡ found → IsValid texts (option_map_or (use_of what) found value.Null)
    by_element what x n None is = tt
    by_element what x n (Some element) is = use_of-valid what element (element-shown x.edge n element is)

    by_number : (what : What) (x : Variable) (number : Option ℕ) → IsValid texts (option_map_or (use_of what) (option_and_then (element_at graph x) number) value.Null)
    by_number what x None = tt
    by_number what x (Some n) = by_element what x n (element_at graph x n) refl

    by_variable : (what : What) (assignment : List ℕ) (variable : ℕ) (found : Option Variable)
        → IsValid texts (option_map_or (use_of what) (option_and_then (λ x. option_and_then (element_at graph x) (number_of assignment variable)) found) value.Null)
    by_variable what assignment variable None = tt
    by_variable what assignment variable (Some x) = by_number what x (number_of assignment variable)

    captures-valid : (assignment : List ℕ) (captures : List Capture) → AllByRecursion (IsValid texts) (map (captured_value graph query assignment) captures)
    captures-valid assignment [] = tt
    captures-valid assignment (capture ∷ captures) =
        (by_variable capture.what assignment capture.variable (slice_get query.variables capture.variable), captures-valid assignment captures)

    -- ---- rows

    columns-valid : {Y : Type 0} (values : List Value) → All (IsValid texts) values → (columns : List (Expr × Y))
        → AllByRecursion (HasValidConstants texts) (map (λ column. column.0) columns) → AllByRecursion (IsValid texts) (map (λ column. val texts values column.0) columns)
    columns-valid values all [] valid = tt
    columns-valid values all (column ∷ columns) valid = (value-valid texts values all column.0 valid.0, columns-valid values all columns valid.1)

    pub row-valid : HasMeaning texts query → (assignment : List ℕ) → AllByRecursion (IsValid texts) (row_of texts graph query assignment)
    row-valid meaning assignment =
        let values = captured graph query assignment in
        let columns = map (λ column. column.0) query.select in
        let keys = map (λ key. key.0) query.keys in
        let before_keys = All-each (HasValidConstants texts) (query.conjuncts ++ columns) (All-fore (HasValidConstants texts) (query.conjuncts ++ columns) keys meaning) in
        columns-valid values (All-each (IsValid texts) values (captures-valid assignment query.captures)) query.select
        (All-parts (HasValidConstants texts) columns (All-back (HasValidConstants texts) query.conjuncts columns before_keys))

    matches-valid : HasMeaning texts query → (matches : List (List ℕ)) → AllByRecursion (λ m. AllByRecursion (IsValid texts) m.row) (map (assignment_shown texts graph query) matches)
    matches-valid meaning [] = tt
    matches-valid meaning (match' ∷ matches) = (row-valid meaning match', matches-valid meaning matches)

    pub answer-shown : HasMeaning texts query → AreShown texts (answer_of texts graph query)
    answer-shown meaning =
        All-rows_of (AllByRecursion (IsValid texts)) texts (arrangement_of query) (map (assignment_shown texts graph query) (all_matches texts graph query))
        (matches-valid meaning (all_matches texts graph query))
