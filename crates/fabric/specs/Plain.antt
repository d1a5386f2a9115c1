-- What a plain fabric answers to each call, and what it asks of its callers.
use Rattle.std.specs.Prelude.{◌≡◌, ℕ, ◌+◌, ◌<◌, ◌≤◌, Bool, true, ◌==◌, if◌then◌else◌, List, slice_get, Option, Some, None}
use Rattle.adfs_base.specs.Shape.{Extents, pool_of}
use Rattle.match_context.specs.Bags.{total}
use Rattle.match_context.specs.declared.message.Message.{Message}
use Rattle.fabric.specs.Account.{Holding, Call, ToClaim, ToRetire, ToCharge, ToFetch, ToPost, ToPush, ToPop, ToPick, ToRestore, ToDischarge, ToMark, ToClose, ToLook, Given, Nothing, Roots, Taken, Came, Seen, one}
use Rattle.fabric.specs.Calls.{can_claim, chunk_end, after_claim, after_retire, can_charge, after_charge, after_discharge, fetch_answer, after_fetch, after_restore, after_post, can_pick, after_pick, can_push, after_push, pop_answer, after_pop, after_close, IsMessageOf}
use Rattle.fabric.specs.Shared.{Shared, IsShared, IsWorkerOf, IsUnit, machine_of, used_at, flying_at, roots_at, cursor_at, enrolled_at, pool_at, word_at, inbox_at}

abbrev pub if_ready : Bool → Given → Shared → Option (Given × Shared)
if_ready ready given after = if ready then Some (given, after) else None

-- where the answer gives something
abbrev pub if_given : {A : Type 0} → (A → Given) → Option A → Shared → Option (Given × Shared)
if_given given None after = None
if_given given (Some x) after = Some (given x, after)

-- what a call of a worker is given and what it leaves; none where the answer isn't ready
abbrev pub outcome : Shared → ℕ → Call → Option (Given × Shared)
outcome s w ToClaim =
    if_ready (can_claim s (machine_of s w)) (Roots (cursor_at s (machine_of s w)) (chunk_end s (machine_of s w))) (after_claim s (machine_of s w))
outcome s w ToRetire = Some (Nothing, after_retire s (machine_of s w))
outcome s w (ToCharge stage to) = if_ready (can_charge s (machine_of s w) stage to) Nothing (after_charge s (machine_of s w) stage to)
outcome s w ToFetch = if_given Taken (fetch_answer s (machine_of s w)) (after_fetch s (machine_of s w))
outcome s w (ToPost stage to) = Some (Nothing, after_post s (machine_of s w) stage to)
outcome s w (ToPush message) = if_ready (can_push s message.to message.stage) Nothing (after_push s message)
outcome s w (ToPop stage) = if_given Came (pop_answer s (machine_of s w) stage) (after_pop s (machine_of s w) stage)
outcome s w (ToPick from stage) = if_ready (can_pick s from stage (machine_of s w)) Nothing (after_pick s from stage (machine_of s w))
outcome s w (ToRestore buffer) = Some (Nothing, after_restore s buffer.home)
outcome s w (ToDischarge from stage) = Some (Nothing, after_discharge s from stage (machine_of s w))
outcome s w (ToMark word) = if_ready (word_at s word == 0) Nothing s
outcome s w ToClose = Some (Nothing, after_close s)
outcome s w ToLook = Some (Seen s.closed, s)

-- A ready answer comes only where the outcome is one, and an answer that isn't ready only where it is none.
abbrev pub PlainDone : Shared → ℕ → Call → Given → Shared → Type 0
PlainDone old worker call given new = outcome old worker call ≡ Some (given, new)

abbrev pub PlainExcused : Shared → ℕ → Call → Shared → Type 0
PlainExcused old worker call new = (outcome old worker call ≡ None) × (new ≡ old)

-- the numbers of the run
abbrev pub plain_shape : Shared → Extents
plain_shape s = s.shape

-- the credits of a word that the holder has, where it is of machine `own`
abbrev pub credits_held : Holding → ℕ → ℕ → ℕ → ℕ → ℕ
credits_held x own from stage to =
    (if from == own then x.opens stage to else 0) + (if to == own then x.works from stage else 0)

-- the buffers of a home that are in inboxes
abbrev pub buffers_in : ℕ → List (List Message) → ℕ
buffers_in home inboxes = total (total (λ message. one (message.items.home == home))) inboxes

-- What the tables must have beside what a worker holds.
pub record PlainAgrees (s : Shared) (worker : ℕ) (x : Holding) : Type 0 where
  pub shared : IsShared s
  pub worker_in : IsWorkerOf s worker
  -- its credits are taken, and not those of messages that are on their way
  pub credits : (from stage to : ℕ) → IsUnit s from stage to → flying_at s from stage to + credits_held x (machine_of s worker) from stage to ≤ used_at s from stage to
  pub enrolled : x.enrolled ≡ true → 0 < enrolled_at s (machine_of s worker)
  -- there is room in the pools for its buffers
  pub buffers : (home : ℕ) → home < s.shape.machines → pool_at s home + buffers_in home s.inboxes + x.buffers home ≤ pool_of s.shape
  pub messages : (machine stage i : ℕ) (waiting : List Message) (message : Message) → inbox_at s machine stage ≡ Some waiting → slice_get waiting i ≡ Some message →
      IsMessageOf s.shape message × (message.to ≡ machine) × (message.stage ≡ stage)
  pub cursors : (machine : ℕ) → cursor_at s machine ≤ roots_at s machine
  pub ended : x.ended ≡ true → cursor_at s (machine_of s worker) ≡ roots_at s (machine_of s worker)
  pub closed : x.closed ≤ s.closed
  pub looked : x.looked ≡ true → x.closed ≡ s.closed
