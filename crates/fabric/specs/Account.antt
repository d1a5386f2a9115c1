-- What a worker holds of what is shared, and what each call makes of it.
use Rattle.std.specs.Prelude.{◌≡◌, ℕ, ◌+◌, ◌-◌, ◌<◌, ◌≤◌, Bool, true, false, ◌&&◌, ◌||◌, ◌==◌, if◌then◌else◌}
use Rattle.adfs_base.specs.Shape.{Extents}
use Rattle.adfs_base.specs.declared.step_answers.Word.{Word}
use Rattle.adfs_base.specs.declared.step_answers.Word.TheVariants.{Enrolled, Used}
use Rattle.match_context.specs.Batch.{Batch}
use Rattle.match_context.specs.declared.message.Message.{Message}
use Rattle.fabric.specs.Calls.{IsMessageOf, empty_buffer}

pub record Holding : Type 0 where
  pub enrolled : Bool
  -- the credits of its open buffers and of a charged hand, by stage and target
  pub opens : ℕ → ℕ → ℕ
  -- the credits of its message frames and of an emptied hand, by sender and stage
  pub works : ℕ → ℕ → ℕ
  -- the buffers with it, by home
  pub buffers : ℕ → ℕ
  -- whether it saw that no root of its machine is left
  pub ended : Bool
  -- how many stages it saw closed, and which words of the next one it saw at 0 since
  pub closed : ℕ
  pub marked : Word → Bool
  -- whether its last call was to look at that
  pub looked : Bool

-- the calls, with all that they are told
pub data Call : Type 0 where
  ToClaim : Call
  ToRetire : Call
  ToCharge : (stage : ℕ) → (to : ℕ) → Call
  ToFetch : Call
  ToPost : (stage : ℕ) → (to : ℕ) → Call
  ToPush : (message : Message) → Call
  ToPop : (stage : ℕ) → Call
  ToPick : (from : ℕ) → (stage : ℕ) → Call
  ToRestore : (buffer : Batch) → Call
  ToDischarge : (from : ℕ) → (stage : ℕ) → Call
  ToMark : (word : Word) → Call
  ToClose : Call
  ToLook : Call

-- what a ready answer gives: nothing, roots, a buffer, a message, or a number of closed stages
pub data Given : Type 0 where
  Nothing : Given
  Roots : (first : ℕ) → (end : ℕ) → Given
  Taken : (buffer : Batch) → Given
  Came : (message : Message) → Given
  Seen : (closed : ℕ) → Given

-- ---- who may call
-- There is such a stage for messages.
abbrev pub IsLater : Extents → ℕ → Type 0
IsLater shape stage = (0 < stage) × (stage < shape.stages)

-- There is such a word of that stage.
abbrev pub IsStageWord : Extents → ℕ → Word → Type 0
IsStageWord shape stage (Enrolled machine) = (stage ≡ 0) × (machine < shape.machines)
IsStageWord shape stage (Used from its_stage to) =
    (stage ≡ its_stage) × IsLater shape its_stage × (from < shape.machines) × (to < shape.machines)

-- Whoever holds this may make the call. A charge is for one who is enrolled or has a credit of a lower stage in work.
abbrev pub Allows : Extents → Holding → Call → Type 0
Allows shape x ToClaim = x.enrolled ≡ true
Allows shape x ToRetire = (x.enrolled ≡ true) × (x.ended ≡ true)
Allows shape x (ToCharge stage to) =
    IsLater shape stage × (to < shape.machines)
    × (x.enrolled ≡ false → (from : ℕ) × ((lower : ℕ) × (lower < stage) × (0 < x.works from lower)))
Allows shape x ToFetch = Unit {0}
Allows shape x (ToPost stage to) = IsLater shape stage × (to < shape.machines) × (0 < x.opens stage to)
Allows shape x (ToPush message) = IsMessageOf shape message × (0 < x.buffers message.items.home)
Allows shape x (ToPop stage) = IsLater shape stage
Allows shape x (ToPick from stage) = (from < shape.machines) × IsLater shape stage
Allows shape x (ToRestore buffer) =
    (buffer.home < shape.machines) × (buffer ≡ empty_buffer buffer.home shape.buffer) × (0 < x.buffers buffer.home)
Allows shape x (ToDischarge from stage) = (from < shape.machines) × IsLater shape stage × (0 < x.works from stage)
Allows shape x (ToMark word) = (x.looked ≡ true) × IsStageWord shape x.closed word
Allows shape x ToClose =
    (x.looked ≡ true) × (x.closed < shape.stages) × ((word : Word) → IsStageWord shape x.closed word → x.marked word ≡ true)
Allows shape x ToLook = Unit {0}

-- ---- what the caller holds afterwards
abbrev pub one : Bool → ℕ
one test = if test then 1 else 0

abbrev pub raised : (ℕ → ℕ → ℕ) → ℕ → ℕ → ℕ → ℕ → ℕ
raised number a b = λ i j. number i j + one ((i == a) && (j == b))

abbrev pub lowered : (ℕ → ℕ → ℕ) → ℕ → ℕ → ℕ → ℕ → ℕ
lowered number a b = λ i j. number i j - one ((i == a) && (j == b))

abbrev pub more : (ℕ → ℕ) → ℕ → ℕ → ℕ
more number a = λ i. number i + one (i == a)

abbrev pub fewer : (ℕ → ℕ) → ℕ → ℕ → ℕ
fewer number a = λ i. number i - one (i == a)

abbrev pub is_same_word : Word → Word → Bool
is_same_word (Enrolled a) (Enrolled b) = a == b
is_same_word (Enrolled a) (Used m k n) = false
is_same_word (Used m k n) (Enrolled a) = false
is_same_word (Used m k n) (Used m' k' n') = (m == m') && ((k == k') && (n == n'))

-- all but the look
abbrev pub unlooked : Holding → Holding
unlooked x = record x { looked = false }

-- it saw that no root is left
abbrev pub at_end : Holding → Holding
at_end x = record x { ended = true; looked = false }

-- it saw so many stages closed; the marks of an earlier stage are gone
abbrev pub seen_closed : ℕ → Holding → Holding
seen_closed closed x =
    record x { closed = closed; marked = if x.closed == closed then x.marked else (λ word. false); looked = true }

abbrev pub with_given : Given → Holding → Holding
with_given Nothing x = unlooked x
with_given (Roots first end) x = unlooked x
with_given (Taken buffer) x = record x { buffers = more x.buffers buffer.home; looked = false }
with_given (Came message) x = record x { buffers = more x.buffers message.items.home; looked = false }
with_given (Seen closed) x = seen_closed closed x

-- after a ready answer
abbrev pub holds_after : Call → Given → Holding → Holding
holds_after ToClaim given x = with_given given x
holds_after ToRetire given x = record x { enrolled = false; looked = false }
holds_after (ToCharge stage to) given x = record x { opens = raised x.opens stage to; looked = false }
holds_after ToFetch given x = with_given given x
holds_after (ToPost stage to) given x = record x { opens = lowered x.opens stage to; looked = false }
holds_after (ToPush message) given x = record x { buffers = fewer x.buffers message.items.home; looked = false }
holds_after (ToPop stage) given x = with_given given x
holds_after (ToPick from stage) given x = record x { works = raised x.works from stage; looked = false }
holds_after (ToRestore buffer) given x = record x { buffers = fewer x.buffers buffer.home; looked = false }
holds_after (ToDischarge from stage) given x = record x { works = lowered x.works from stage; looked = false }
holds_after (ToMark word) given x = record x { marked = λ other. is_same_word word other || x.marked other; looked = false }
holds_after ToClose given x = record x { closed = x.closed + 1; marked = λ word. false; looked = false }
holds_after ToLook given x = with_given given x

-- The two hold the same, number by number.
pub record SameHolding (x y : Holding) : Type 0 where
  pub enrolled : x.enrolled ≡ y.enrolled
  pub opens : (stage to : ℕ) → x.opens stage to ≡ y.opens stage to
  pub works : (from stage : ℕ) → x.works from stage ≡ y.works from stage
  pub buffers : (home : ℕ) → x.buffers home ≡ y.buffers home
  pub ended : x.ended ≡ y.ended
  pub closed : x.closed ≡ y.closed
  pub marked : (word : Word) → x.marked word ≡ y.marked word
  pub looked : x.looked ≡ y.looked

-- ---- what may be given
abbrev pub IsChunk : ℕ → Given → Type 0
IsChunk roots (Roots first end) = (first < end) × (end ≤ roots)
IsChunk roots given = ⊥

abbrev pub IsEmptyBuffer : Extents → ℕ → Given → Type 0
IsEmptyBuffer shape machine (Taken buffer) = buffer ≡ empty_buffer machine shape.buffer
IsEmptyBuffer shape machine given = ⊥

abbrev pub IsMessageFor : Extents → ℕ → ℕ → Given → Type 0
IsMessageFor shape machine stage (Came message) = IsMessageOf shape message × (message.to ≡ machine) × (message.stage ≡ stage)
IsMessageFor shape machine stage given = ⊥

abbrev pub IsClosed : Extents → Given → Type 0
IsClosed shape (Seen closed) = closed ≤ shape.stages
IsClosed shape given = ⊥

-- what a call of a worker of this machine may be given, where the machine has so many roots
abbrev pub IsGiven : Extents → ℕ → ℕ → Call → Given → Type 0
IsGiven shape roots machine ToClaim given = IsChunk roots given
IsGiven shape roots machine ToRetire given = given ≡ Nothing
IsGiven shape roots machine (ToCharge stage to) given = given ≡ Nothing
IsGiven shape roots machine ToFetch given = IsEmptyBuffer shape machine given
IsGiven shape roots machine (ToPost stage to) given = given ≡ Nothing
IsGiven shape roots machine (ToPush message) given = given ≡ Nothing
IsGiven shape roots machine (ToPop stage) given = IsMessageFor shape machine stage given
IsGiven shape roots machine (ToPick from stage) given = given ≡ Nothing
IsGiven shape roots machine (ToRestore buffer) given = given ≡ Nothing
IsGiven shape roots machine (ToDischarge from stage) given = given ≡ Nothing
IsGiven shape roots machine (ToMark word) given = given ≡ Nothing
IsGiven shape roots machine ToClose given = given ≡ Nothing
IsGiven shape roots machine ToLook given = IsClosed shape given
