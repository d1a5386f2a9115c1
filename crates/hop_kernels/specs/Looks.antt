-- What one sees of captures before they are written.
use Rattle.std.specs.Prelude.{◌≡◌, ℕ, Bool, true, List, [], ◌∷◌, length, slice_get, slice_set, Option, Some, None, IsSome, if◌then◌else◌}
use Rattle.std.specs.List.{list_all}
use Rattle.std.specs.Option.{option_map_or}
use Rattle.adfs_base.specs.declared.value.Value.{Value}
use Rattle.adfs_base.specs.declared.value.Value.TheVariants as value
use Rattle.element_store.specs.Words.{value_from}
use Rattle.match_context.specs.Tree.{Item, answer}
use Rattle.match_context.specs.Words.{captured_in}
use Rattle.match_context.specs.declared.expand.Next.{Next}
use Rattle.partition.specs.Parts.{MachinePart}
use Rattle.result_collect.specs.Contexts.{kind_of}
use Rattle.typed_expr.specs.Val.{passes, val}
use Rattle.typed_expr.specs.declared.query.Query.{Query}
use Rattle.stage_plan.specs.Walk.{captures_of, conjunct_at}
use Rattle.stage_plan.specs.declared.stage.Gains.{Gains}
use Rattle.plan_tree.specs.Answers.{arrived_by, is_of, tested}
use Rattle.plan_tree.specs.Told.{is_told, with_number, word_at, written}
use Rattle.hop_kernels.specs.Spots.{element_at, element_in}
use Rattle.hop_kernels.specs.declared.look.Look.{Look}

-- what one looks at is there
abbrev pub IsInSight : MachinePart → Option Look → Type 0
IsInSight part None = Unit {0}
IsInSight part (Some look) = IsSome (element_at part look.spot)

-- the word of a capture: of the element at which one looks, or as the words have it
abbrev pub word_seen : Query → MachinePart → Option Look → List ℕ → ℕ → Option ℕ
word_seen query part None words place = captured_in words (length query.variables) place
word_seen query part (Some look) words place =
    if is_of query look.variable place then word_at query (element_in part look.spot) place else captured_in words (length query.variables) place

abbrev pub told_seen : List (List ℕ) → Query → MachinePart → Option Look → List ℕ → ℕ → Bool
told_seen texts query part look words place =
    option_map_or (λ capture. is_told texts (kind_of capture.what) (word_seen query part look words place)) (slice_get query.captures place) true

-- the words with the captures of the element at which one looks
abbrev pub words_seen : Query → MachinePart → Option Look → List ℕ → List ℕ
words_seen query part None words = words
words_seen query part (Some look) words = written query (element_in part look.spot) (captures_of query look.variable) words

-- the value of a capture as it is seen
abbrev pub value_seen : Query → MachinePart → Option Look → List ℕ → ℕ → Value
value_seen query part look words place =
    option_map_or (λ capture. value_from (kind_of capture.what) (word_seen query part look words place)) (slice_get query.captures place) value.Null

-- the values with those that are seen at these places
abbrev pub with_values : Query → MachinePart → Option Look → List ℕ → List ℕ → List Value → List Value
with_values query part look words [] values = values
with_values query part look words (place ∷ places) values =
    with_values query part look words places (slice_set values place (value_seen query part look words place))

-- each of these conjuncts is true of values
abbrev pub all_pass : List (List ℕ) → Query → List Value → List ℕ → Bool
all_pass texts query values numbers = list_all (λ number. passes (val texts values (conjunct_at query number))) numbers

-- the words with the number of a vertex, where a hop binds one
abbrev pub with_end : Option ℕ → ℕ → List ℕ → List ℕ
with_end None other words = words
with_end (Some to) other words = with_number to other words

-- what `next` answers at an item
abbrev pub one_answer : Item → Next
one_answer item = answer (item ∷ [])

-- One looks at the vertex at which the words arrive for a variable, and its label is right.
pub record IsVertexAhead (texts : List (List ℕ)) (query : Query) (part : MachinePart) (variable : ℕ) (words : List ℕ) (look : Look) : Type 0 where
  pub variable_is : look.variable ≡ variable
  pub there : IsSome (element_at part look.spot)
  pub arrives : (gains : Gains) → arrived_by texts query part gains words (Some variable)
      ≡ tested texts query gains (written query (element_in part look.spot) gains.captures words)
