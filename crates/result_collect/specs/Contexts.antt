-- The matches for which contexts stand.
use Rattle.std.specs.Prelude.{◌≡◌, ℕ, ◌+◌, List, [], ◌∷◌, length, map}
use Rattle.std.specs.List.{range_with_len}
use Rattle.std.specs.List.Sorted.{IsPermutation}
use Rattle.adfs_base.specs.declared.value.Kind.{Kind}
use Rattle.adfs_base.specs.declared.value.Kind.TheVariants as kind
use Rattle.adfs_base.specs.declared.value.Value.{Value}
use Rattle.answer_rows.specs.Arranged.{Shown}
use Rattle.element_store.specs.Words.{value_from}
use Rattle.graph_tables.specs.Graph.{PropertyGraph}
use Rattle.match_context.specs.Words.{captured_in, number_in}
use Rattle.match_context.specs.declared.context.Context.{Context}
use Rattle.pgql_meaning.specs.Answer.{all_matches, answer_of, shown_by}
use Rattle.pgql_meaning.specs.Captured.{captured}
use Rattle.pgql_meaning.specs.Shown.{HasMeaning, HasShown}
use Rattle.typed_query.specs.WellFormed.{IsWellFormed}
use Rattle.typed_query.specs.declared.query.Capture.{Capture}
use Rattle.typed_query.specs.declared.query.Query.{Query}
use Rattle.typed_query.specs.declared.query.What.{What}
use Rattle.typed_query.specs.declared.query.What.TheVariants as what

-- the kind of what is used of a variable
abbrev pub kind_of : What → Kind
kind_of (what.Property property k) = k
kind_of what.Id = kind.Int
kind_of what.Label = kind.Text

-- the numbers of the variables
abbrev pub numbers_in : Query → Context → List ℕ
numbers_in query context = map (number_in context.words) (range_with_len 0 (length query.variables))

-- captured values, from this place on
abbrev pub values_from : List ℕ → ℕ → ℕ → List Capture → List Value
values_from words variables place [] = []
values_from words variables place (capture ∷ captures) =
    value_from (kind_of capture.what) (captured_in words variables place) ∷ values_from words variables (place + 1) captures

-- the captured values
abbrev pub values_in : Query → Context → List Value
values_in query context = values_from context.words (length query.variables) 0 query.captures

-- what a context shows
abbrev pub shown_in : List (List ℕ) → Query → Context → Shown
shown_in texts query context = shown_by texts query (values_in query context) (numbers_in query context)

-- The context stands for the assignment: the numbers are the assignment's, and the captured values are its values.
pub record StandsFor (graph : PropertyGraph) (query : Query) (context : Context) (assignment : List ℕ) : Type 0 where
  pub numbers : numbers_in query context ≡ assignment
  pub values : values_in query context ≡ captured graph query assignment

-- Each context stands for the assignment at its place.
abbrev pub StandForEach : PropertyGraph → Query → List Context → List (List ℕ) → Type 0
StandForEach graph query [] [] = Unit {0}
StandForEach graph query [] (assignment ∷ others) = ⊥
StandForEach graph query (context ∷ contexts) [] = ⊥
StandForEach graph query (context ∷ contexts) (assignment ∷ others) = StandsFor graph query context assignment × StandForEach graph query contexts others

-- The rows are the answer of the query over every graph for whose matches the contexts stand, each for one and in whatever order,
-- where the graph and the query mean something under the texts.
abbrev pub AreAnswerOf : List (List ℕ) → Query → List Context → List (List Value) → Type 0
AreAnswerOf texts query contexts rows = (graph : PropertyGraph) (matches : List (List ℕ))
    → StandForEach graph query contexts matches → IsPermutation (all_matches texts graph query) matches
    → HasShown texts graph → HasMeaning texts query → IsWellFormed query
    → rows ≡ answer_of texts graph query
