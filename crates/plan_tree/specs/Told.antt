-- What is written into the words of a context, and what they say.
use Rattle.std.specs.Prelude.{◌≡◌, ℕ, ◌+◌, ◌-◌, ◌^◌, ◌==◌, ◌&&◌, not, Bool, true, false, ℤ, pos, neg_ℤ, int_lt, List, [], ◌∷◌, length, nat_lt, bit_and, bit_or, slice_get, slice_index}
use Rattle.std.specs.Prelude.{slice_set, Option, Some, None, if◌then◌else◌}
use Rattle.std.specs.List.{AllByRecursion, list_all}
use Rattle.std.specs.Option.{option_and_then, option_map_or}
use Rattle.adfs_base.specs.declared.value.Kind.{Kind}
use Rattle.adfs_base.specs.declared.value.Kind.TheVariants as kind
use Rattle.adfs_base.specs.declared.value.Value.{Value}
use Rattle.adfs_base.specs.declared.value.Value.TheVariants as value
use Rattle.element_store.specs.Elements.{Element}
use Rattle.element_store.specs.Words.{value_from, word_from}
use Rattle.graph_tables.specs.Graph.{PropertyGraph, without_ends}
use Rattle.match_context.specs.Words.{captured_in}
use Rattle.pgql_meaning.specs.Captured.{use_of}
use Rattle.result_collect.specs.Contexts.{kind_of, values_from}
use Rattle.typed_expr.specs.declared.query.Capture.{Capture}
use Rattle.typed_expr.specs.declared.query.Query.{Query}
use Rattle.typed_expr.specs.declared.query.Variable.{Variable}

-- a day of the years 0000 to 9999
abbrev pub is_day : ℤ → Bool
is_day day = not (int_lt day (neg_ℤ (pos 719528))) && not (int_lt (pos 2932896) day)

-- the value means something under the texts
abbrev pub is_valid : List (List ℕ) → Value → Bool
is_valid texts (value.Text number) = nat_lt number (length texts)
is_valid texts (value.Date day) = is_day day
is_valid texts v = true

abbrev pub is_word : ℕ → Option ℕ → Bool
is_word word None = false
is_word word (Some other) = other == word

-- the word stands for a value of the kind; none stands for null
abbrev pub is_told : List (List ℕ) → Kind → Option ℕ → Bool
is_told texts k None = true
is_told texts k (Some word) = is_valid texts (value_from k (Some word)) && is_word word (word_from k (value_from k (Some word)))

-- the words with the number of a variable's element
abbrev pub with_number : ℕ → ℕ → List ℕ → List ℕ
with_number variable number words = slice_set words (1 + variable) number

-- the words with a captured value, after the numbers of so many variables
abbrev pub with_capture : ℕ → ℕ → Option ℕ → List ℕ → List ℕ
with_capture variables place None words =
    slice_set (slice_set words 0 (bit_or (slice_index words 0) (2 ^ place))) (1 + variables + place) 0
with_capture variables place (Some word) words =
    slice_set (slice_set words 0 (bit_and (slice_index words 0) (2 ^ 64 - 1 - 2 ^ place))) (1 + variables + place) word

abbrev pub word_of : Element → Capture → Option ℕ
word_of element capture = word_from (kind_of capture.what) (use_of capture.what element)

-- the word of what the capture of this place captures of an element
abbrev pub word_at : Query → Element → ℕ → Option ℕ
word_at query element place = option_and_then (word_of element) (slice_get query.captures place)

-- the words with these captures of an element
abbrev pub written : Query → Element → List ℕ → List ℕ → List ℕ
written query element [] words = words
written query element (place ∷ places) words =
    written query element places (with_capture (length query.variables) place (word_at query element place) words)

-- the values that the words say
abbrev pub values : Query → List ℕ → List Value
values query words = values_from words (length query.variables) 0 query.captures

-- the word of the capture of this place stands for a value
abbrev pub is_told_at : List (List ℕ) → Query → List ℕ → ℕ → Bool
is_told_at texts query words place =
    option_map_or (λ capture. is_told texts (kind_of capture.what) (captured_in words (length query.variables) place)) (slice_get query.captures place) true

abbrev pub all_told : List (List ℕ) → Query → List ℕ → List ℕ → Bool
all_told texts query words places = list_all (is_told_at texts query words) places

-- the elements for which a variable may stand
abbrev pub elements_for : PropertyGraph → Variable → List Element
elements_for graph variable = if variable.edge then without_ends graph.edges else graph.vertices

-- What the capture captures of the element can be said in a word.
abbrev pub IsTold : Capture → Element → Type 0
IsTold capture element = value_from (kind_of capture.what) (word_of element capture) ≡ use_of capture.what element

abbrev pub AreToldOf : PropertyGraph → Capture → Option Variable → Type 0
AreToldOf graph capture None = Unit {0}
AreToldOf graph capture (Some variable) = AllByRecursion (IsTold capture) (elements_for graph variable)

-- Whatever the query captures of the graph can be said in words: each value is of the kind that the query expects.
abbrev pub AreTold : PropertyGraph → Query → Type 0
AreTold graph query = AllByRecursion (λ capture. AreToldOf graph capture (slice_get query.variables capture.variable)) query.captures
