-- What the definitions of an answer come to.
use Rattle.std.specs.Prelude.{◌≡◌, ◌≢◌, ◌<◌, ◌↔◌, ℕ, All, List, [], ◌∷◌, None, map, true, false, if◌then◌else◌}
use Rattle.std.specs.List.{AllPairs, Contains, IsDistinct}
use Rattle.std.specs.List.Sorted.{IsStrictlySortedBy}
use Rattle.std.specs.Ordering.{ordering_then}
use Rattle.std.specs.Str.{bytes_eq}
use Rattle.std.specs.declared.cmp.Ordering.{Ordering}
use Rattle.adfs_base.specs.declared.value.Value.{Value}
use Rattle.answer_rows.specs.Arranged.{limited}
use Rattle.answer_rows.specs.Orders.{keys_order, numbers_order, row_order}
use Rattle.graph_tables.specs.Graph.{PropertyGraph}
use Rattle.typed_query.specs.declared.query.Query.{Query}
use Rattle.pgql_meaning.specs.Answer.{all_matches, answer_of, order_of, row_of}
use Rattle.pgql_meaning.specs.Assignments.{ranges_of}
use Rattle.pgql_meaning.specs.Fits.{fits}
use Rattle.pgql_meaning.specs.Shown.{HasMeaning, HasShown}

-- one number for each of these bounds, and below it
abbrev pub AreBelow : List ℕ → List ℕ → Type 0
AreBelow [] [] = Unit {0}
AreBelow [] (number ∷ numbers) = ⊥
AreBelow (bound ∷ bounds) [] = ⊥
AreBelow (bound ∷ bounds) (number ∷ numbers) = (number < bound) × AreBelow bounds numbers

-- the assignment has a number of an element for each variable, and fits
pub record IsMatch (texts : List (List ℕ)) (graph : PropertyGraph) (query : Query) (assignment : List ℕ) : Type 0 where
  pub names_elements : AreBelow (ranges_of graph query.variables) assignment
  pub does_fit : fits texts graph query assignment ≡ true

-- the matches are the assignments that fit, and no others
abbrev pub MatchesFit : Type 0
MatchesFit = (texts : List (List ℕ)) (graph : PropertyGraph) (query : Query) (assignment : List ℕ)
    → Contains (all_matches texts graph query) assignment ↔ IsMatch texts graph query assignment

-- each assignment stands once among the matches, in ascending lexicographic order
abbrev pub MatchesAscend : Type 0
MatchesAscend = (texts : List (List ℕ)) (graph : PropertyGraph) (query : Query) → IsStrictlySortedBy numbers_order (all_matches texts graph query)

-- which of two assignments stands first: by the order keys, each in its direction, and where those tie by the elements'
-- numbers, or with DISTINCT by the row
abbrev pub answer_order : List (List ℕ) → PropertyGraph → Query → List ℕ → List ℕ → Ordering
answer_order texts graph query a b =
    ordering_then (keys_order texts (map (λ key. key.1) query.keys) (order_of texts graph query a) (order_of texts graph query b))
    (if query.distinct then row_order texts (row_of texts graph query a) (row_of texts graph query b) else numbers_order a b)

-- the rows are those of matches, each of which comes before all that follow it
pub record Ascend (texts : List (List ℕ)) (graph : PropertyGraph) (query : Query) (rows : List (List Value)) : Type 0 where
  pub found : List (List ℕ)
  pub are_matches : All (IsMatch texts graph query) found
  pub ascend : IsStrictlySortedBy (answer_order texts graph query) found
  pub rows_are : rows ≡ map (row_of texts graph query) found

-- an answer ascends by its keys, each in its direction, and then by its elements, or with DISTINCT by its rows
abbrev pub AnswersAscend : Type 0
AnswersAscend = (texts : List (List ℕ)) (graph : PropertyGraph) (query : Query) → Ascend texts graph query (answer_of texts graph query)

-- without order keys and DISTINCT the rows stand in the order of their assignments
abbrev pub RowsStandByAssignment : Type 0
RowsStandByAssignment = (texts : List (List ℕ)) (graph : PropertyGraph) (query : Query) → query.keys ≡ [] → query.distinct ≡ false
    → answer_of texts graph query ≡ limited query.limit (map (row_of texts graph query) (all_matches texts graph query))

abbrev pub without_limit : Query → Query
without_limit query = record {
  variables = query.variables;
  edges = query.edges;
  captures = query.captures;
  conjuncts = query.conjuncts;
  select = query.select;
  keys = query.keys;
  distinct = query.distinct;
  limit = None;
}

-- a limit leaves so many first rows of the answer without it
abbrev pub LimitsComeLast : Type 0
LimitsComeLast = (texts : List (List ℕ)) (graph : PropertyGraph) (query : Query)
    → answer_of texts graph query ≡ limited query.limit (answer_of texts graph (without_limit query))

-- each row of a match stands in the answer before the limit
abbrev pub HasEachRow : List (List ℕ) → PropertyGraph → Query → Type 0
HasEachRow texts graph query =
    All (λ assignment. Contains (answer_of texts graph (without_limit query)) (row_of texts graph query assignment)) (all_matches texts graph query)

-- with DISTINCT no row stands twice, and each row of a match stands there before the limit
pub record RowsStandOnce : Type 0 where
  pub differ : (texts : List (List ℕ)) (graph : PropertyGraph) (query : Query) → query.distinct ≡ true → AllPairs (λ a b. a ≢ b) (answer_of texts graph query)
  pub stand : (texts : List (List ℕ)) (graph : PropertyGraph) (query : Query) → IsDistinct bytes_eq texts → HasShown texts graph → HasMeaning texts query
      → query.distinct ≡ true → HasEachRow texts graph query
