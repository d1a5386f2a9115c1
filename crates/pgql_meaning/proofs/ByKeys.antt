-- An answer ascends by its keys, and then by its elements or its rows.
use Rattle.std.proofs.Common.{◌≡◌, inl, inr, ℕ, List, [], ◌∷◌, All, map, refl, sym, ap, subst, ◌∙◌}
use Rattle.std.specs.List.{AllByRecursion}
use Rattle.std.specs.List.Sorted.{IsStrictlySortedBy}
use Rattle.std.specs.declared.cmp.Ordering.TheVariants.{Less}
use Rattle.std.proofs.lemmas.List.Elements.{All-cons, All-nil}
use Rattle.sorted_lists.proofs.Among.{Among, Contains-among}
use Rattle.answer_rows.specs.Arranged.{Shown, match_order}
use Rattle.answer_rows.specs.Orders.{numbers_order}
use Rattle.answer_rows.proofs.Ascending.{All-answered, answered, answered-ascend, by_numbers, rows_of-answered}
use Rattle.graph_tables.specs.Graph.{PropertyGraph}
use Rattle.typed_query.specs.declared.query.Query.{Query}
use Rattle.pgql_meaning.specs.Answer.{all_matches, answer_of, arrangement_of, row_of, shown}
use Rattle.pgql_meaning.specs.Laws.{AnswersAscend, Ascend, IsMatch, answer_order}
use Rattle.pgql_meaning.proofs.Matches.{matches_ascend, matches_fit}

module _ (texts : List (List ℕ)) (graph : PropertyGraph) (query : Query) where
  -- it is what a match shows
  abbrev IsOfMatch : Shown → Type 0
  IsOfMatch m = (assignment : List ℕ) × IsMatch texts graph query assignment × (m ≡ shown texts graph query assignment)

  all-of_matches : (xs : List (List ℕ)) → ((x : List ℕ) → Among xs x → IsMatch texts graph query x) → AllByRecursion IsOfMatch (map (shown texts graph query) xs)
  all-of_matches [] matches = tt
  all-of_matches (x ∷ xs) matches = ((x, matches x (inl refl), refl), all-of_matches xs (λ y later. matches y (inr later)))

  each-of_match : AllByRecursion IsOfMatch (map (shown texts graph query) (all_matches texts graph query))
  each-of_match =
      all-of_matches (all_matches texts graph query)
      (λ x among. (matches_fit texts graph query x).0 (Contains-among (all_matches texts graph query) x among))

  -- ---- what all matches show ascends by their numbers

  numbers-behind : (x : List ℕ) (ys : List (List ℕ)) → AllByRecursion (λ y. numbers_order x y ≡ Less) ys
      → AllByRecursion (λ m. numbers_order x m.numbers ≡ Less) (map (shown texts graph query) ys)
  numbers-behind x [] all = tt
  numbers-behind x (y ∷ ys) all = (all.0, numbers-behind x ys all.1)

  numbers-ascend : (xs : List (List ℕ)) → IsStrictlySortedBy numbers_order xs
      → IsStrictlySortedBy (by_numbers texts (arrangement_of query)) (map (shown texts graph query) xs)
  unfolding IsStrictlySortedBy
  numbers-ascend [] sorted = tt
  numbers-ascend (x ∷ xs) sorted = (numbers-behind x xs sorted.0, numbers-ascend xs sorted.1)

  -- ---- from what they show back to the matches

  itself : (m : Shown) → IsOfMatch m → shown texts graph query m.numbers ≡ m
  itself m told = subst (λ x. shown texts graph query x.numbers ≡ x) (sym told.2) refl

  numbers-match : (m : Shown) → IsOfMatch m → IsMatch texts graph query m.numbers
  numbers-match m told = subst (λ x. IsMatch texts graph query x.numbers) (sym told.2) told.1

  are_matches : (ms : List Shown) → AllByRecursion IsOfMatch ms → All (IsMatch texts graph query) (map (λ m. m.numbers) ms)
  are_matches [] told = All-nil (IsMatch texts graph query)
  are_matches (m ∷ ms) told =
      All-cons (IsMatch texts graph query) m.numbers (map (λ n. n.numbers) ms) (numbers-match m told.0) (are_matches ms told.1)

  less : (m n : Shown) → IsOfMatch m → IsOfMatch n → match_order texts (arrangement_of query) m n ≡ Less → answer_order texts graph query m.numbers n.numbers ≡ Less
  less m n told told' is =
      let order = match_order texts (arrangement_of query) in
      subst (λ x. order x (shown texts graph query n.numbers) ≡ Less) (sym (itself m told))
      (subst (λ y. order m y ≡ Less) (sym (itself n told')) is)

  behind : (m : Shown) → IsOfMatch m → (ns : List Shown) → AllByRecursion IsOfMatch ns → AllByRecursion (λ n. match_order texts (arrangement_of query) m n ≡ Less) ns
      → AllByRecursion (λ numbers. answer_order texts graph query m.numbers numbers ≡ Less) (map (λ n. n.numbers) ns)
  behind m told [] all is = tt
  behind m told (n ∷ ns) all is = (less m n told all.0 is.0, behind m told ns all.1 is.1)

  ascend : (ms : List Shown) → AllByRecursion IsOfMatch ms → IsStrictlySortedBy (match_order texts (arrangement_of query)) ms
      → IsStrictlySortedBy (answer_order texts graph query) (map (λ m. m.numbers) ms)
  unfolding IsStrictlySortedBy
  ascend [] told sorted = tt
  ascend (m ∷ ms) told sorted = (behind m told.0 ms told.1 sorted.0, ascend ms told.1 sorted.1)

  rows : (ms : List Shown) → AllByRecursion IsOfMatch ms → map (λ m. m.row) ms ≡ map (row_of texts graph query) (map (λ m. m.numbers) ms)
  rows [] told = refl
  rows (m ∷ ms) told =
      let here : m.row ≡ row_of texts graph query m.numbers = sym (ap (λ (x : Shown). x.row) (itself m told.0)) in
      rw (here, rows ms told.1) refl

  pub answer-ascends : Ascend texts graph query (answer_of texts graph query)
  answer-ascends =
      let whole = map (shown texts graph query) (all_matches texts graph query) in
      let told = All-answered texts (arrangement_of query) IsOfMatch whole each-of_match in
      let found = answered texts (arrangement_of query) whole in
      record {
        found = map (λ (m : Shown). m.numbers) found;
        are_matches = are_matches found told;
        ascend =
            ascend found told
            (answered-ascend texts (arrangement_of query) whole (numbers-ascend (all_matches texts graph query) (matches_ascend texts graph query)));
        rows_are = rows_of-answered texts (arrangement_of query) whole ∙ rows found told;
      }

pub answers_ascend : AnswersAscend
answers_ascend texts graph query = answer-ascends texts graph query
