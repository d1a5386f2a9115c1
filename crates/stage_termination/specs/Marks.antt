-- The words of a stage, and the marks that a worker has made on them.
use Rattle.std.specs.Prelude.{◌≡◌, ℕ, ◌+◌, ◌*◌, ◌/◌, ◌%◌, Bool, true, false, not, ◌&&◌, ◌==◌, nat_lt, if◌then◌else◌, List, slice_index_or, slice_set, replicate, Option, Some, None}
use Rattle.std.specs.List.{position, list_all}
use Rattle.adfs_base.specs.declared.step_answers.Word.{Word}
use Rattle.adfs_base.specs.declared.step_answers.Word.TheVariants.{Enrolled, Used}

-- a stage, with a mark or none for each of its words in their order
pub record Marks : Type 0 where
  pub machines : ℕ
  pub stages : ℕ
  pub stage : ℕ
  pub marked : List Bool

-- stage 0 has a word for each machine, each later one a word for each pair of them; there is no stage from stages on
abbrev pub words_of : ℕ → ℕ → ℕ → ℕ
words_of machines stages stage =
    if nat_lt stage stages then (if stage == 0 then machines else machines * machines) else 0

-- a word's place among those of its stage
abbrev pub place_of : ℕ → Word → ℕ
place_of machines (Enrolled machine) = machine
place_of machines (Used from stage to) = from * machines + to

abbrev pub word_at : ℕ → ℕ → ℕ → Word
word_at machines stage place =
    if stage == 0 then Enrolled place else Used (place / machines) stage (place % machines)

-- whether the word is of the stage
abbrev pub is_word : Marks → Word → Bool
is_word marks (Enrolled machine) = (marks.stage == 0) && (nat_lt 0 marks.stages && nat_lt machine marks.machines)
is_word marks (Used from stage to) =
    nat_lt 0 stage
    && ((stage == marks.stage) && (nat_lt stage marks.stages && (nat_lt from marks.machines && nat_lt to marks.machines)))

abbrev pub IsWordOf : Marks → Word → Type 0
IsWordOf marks word = is_word marks word ≡ true

-- no word of the stage is marked
abbrev pub unmarked : ℕ → ℕ → ℕ → Marks
unmarked machines stages stage =
    record { machines = machines; stages = stages; stage = stage; marked = replicate (words_of machines stages stage) false }

abbrev pub with_mark : Marks → Word → Marks
with_mark marks word = record marks { marked = slice_set marks.marked (place_of marks.machines word) true }

abbrev pub is_marked : Marks → Word → Bool
is_marked marks word = is_word marks word && slice_index_or marks.marked (place_of marks.machines word) false

-- at another stage no word is marked
abbrev pub moved_to : Marks → ℕ → Marks
moved_to marks closed = if marks.stage == closed then marks else unmarked marks.machines marks.stages closed

abbrev pub word_found : Marks → Option ℕ → Option Word
word_found marks None = None
word_found marks (Some place) = Some (word_at marks.machines marks.stage place)

-- the first word without a mark
abbrev pub next_word_of : Marks → Option Word
next_word_of marks = word_found marks (position not marks.marked)

-- all words are marked, of a stage that there is
abbrev pub is_ready : Marks → Bool
is_ready marks = nat_lt marks.stage marks.stages && list_all (λ m. m) marks.marked
