-- With DISTINCT no row of an answer stands twice, and the row of each match stands there.
use Rattle.std.proofs.Common.{◌≡◌, inl, inr, ℕ, true, List, [], ◌∷◌, All, map, refl, sym, ap, subst, ◌∙◌}
use Rattle.std.specs.List.{Contains, IsDistinct}
use Rattle.std.specs.Str.{bytes_eq}
use Rattle.std.proofs.lemmas.List.Elements.{All-cons, All-nil}
use Rattle.sorted_lists.proofs.Among.{Among, Among-map, Among-mapped, Contains-among}
use Rattle.answer_rows.specs.Arranged.{Shown, has_row}
use Rattle.answer_rows.specs.Orders.{row_order}
use Rattle.answer_rows.proofs.Once.{rows_of-each, rows_of-once}
use Rattle.answer_rows.proofs.Ties.{equal_by, row-one}
use Rattle.graph_tables.specs.Graph.{PropertyGraph}
use Rattle.typed_query.specs.declared.query.Query.{Query}
use Rattle.pgql_meaning.specs.Answer.{answer_of, all_matches, arrangement_of, row_of, shown}
use Rattle.pgql_meaning.specs.Laws.{HasEachRow, RowsStandOnce, without_limit}
use Rattle.pgql_meaning.specs.Shown.{HasMeaning, HasShown}
use Rattle.pgql_meaning.proofs.Validity.{row-valid}

module _ (texts : List (List ℕ)) (graph : PropertyGraph) (query : Query) (distinct : IsDistinct bytes_eq texts) (graph_shown : HasShown texts graph)
    (meaning : HasMeaning texts query) (once : query.distinct ≡ true) where
  same-row : (x y : List ℕ) → has_row texts (shown texts graph query x) (shown texts graph query y) ≡ true → row_of texts graph query x ≡ row_of texts graph query y
  same-row x y tie =
      row-one texts distinct (row_of texts graph query x) (row_of texts graph query y)
      (row-valid texts graph graph_shown query meaning x) (row-valid texts graph graph_shown query meaning y)
      (equal_by (row_order texts (row_of texts graph query x) (row_of texts graph query y)) tie)

  -- the row of a match stands in the answer
  stands : (assignment : List ℕ) → Among (all_matches texts graph query) assignment
      → Contains (answer_of texts graph (without_limit query)) (row_of texts graph query assignment)
  stands assignment among =
      let matches = map (shown texts graph query) (all_matches texts graph query) in
      let found = rows_of-each texts (arrangement_of (without_limit query)) once refl matches (shown texts graph query assignment)
      (Among-map (shown texts graph query) (all_matches texts graph query) assignment among) in
      let other = Among-mapped (shown texts graph query) (all_matches texts graph query) found.0 found.1 in
      let tie = subst (λ m. has_row texts m (shown texts graph query assignment) ≡ true) (sym other.2) found.2 in
      let row : found.0.row ≡ row_of texts graph query assignment = sym (ap (λ (m : Shown). m.row) other.2) ∙ same-row other.0 assignment tie in
      Contains-among (answer_of texts graph (without_limit query)) (row_of texts graph query assignment)
      (subst (Among (answer_of texts graph (without_limit query))) row found.3)

  each : (matches : List (List ℕ)) → ((x : List ℕ) → Among matches x → Among (all_matches texts graph query) x)
      → All (λ assignment. Contains (answer_of texts graph (without_limit query)) (row_of texts graph query assignment)) matches
  each [] among = All-nil (λ assignment. Contains (answer_of texts graph (without_limit query)) (row_of texts graph query assignment))
  each (x ∷ matches) among =
      All-cons (λ assignment. Contains (answer_of texts graph (without_limit query)) (row_of texts graph query assignment)) x matches
      (stands x (among x (inl refl))) (each matches (λ y later. among y (inr later)))

  pub each-row : HasEachRow texts graph query
  each-row = each (all_matches texts graph query) (λ x among. among)

pub rows_stand_once : RowsStandOnce
rows_stand_once = record {
  differ = λ texts graph query once. rows_of-once texts (arrangement_of query) once (map (shown texts graph query) (all_matches texts graph query));
  stand = λ texts graph query distinct graph_shown meaning once. each-row texts graph query distinct graph_shown meaning once;
}
