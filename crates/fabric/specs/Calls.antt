-- What each call on what is shared may do, what it answers, and what it leaves.
use Rattle.std.specs.Prelude.{◌≡◌, ℕ, ◌+◌, ◌-◌, ◌<◌, ◌≤◌, Bool, false, min, ◌==◌, nat_lt, if◌then◌else◌, List, [], ◌∷◌, ◌++◌, length, slice_set, Option, Some, None}
use Rattle.adfs_base.specs.Shape.{Extents, limit_of}
use Rattle.adfs_base.specs.declared.step_answers.Charge.{Charge}
use Rattle.adfs_base.specs.declared.step_answers.Charge.TheVariants.{Charged, Full}
use Rattle.adfs_base.specs.declared.step_answers.Claimed.{Claimed}
use Rattle.adfs_base.specs.declared.step_answers.Claimed.TheVariants.{Chunk, Exhausted}
use Rattle.adfs_base.specs.declared.step_answers.Marked.{Marked}
use Rattle.adfs_base.specs.declared.step_answers.Marked.TheVariants.{Zero, Busy}
use Rattle.adfs_base.specs.declared.step_answers.Pick.{Pick}
use Rattle.adfs_base.specs.declared.step_answers.Pick.TheVariants.{Picked, NoneFlying}
use Rattle.adfs_base.specs.declared.step_answers.Word.{Word}
use Rattle.match_context.specs.Batch.{Batch}
use Rattle.match_context.specs.declared.message.Message.{Message}
use Rattle.fabric.specs.Shared.{Shared, used_at, flying_at, roots_at, cursor_at, enrolled_at, pool_at, place, word_at, inbox_place, inbox_at, room_of}

-- ---- claim: the next chunk of roots
abbrev pub can_claim : Shared → ℕ → Bool
can_claim s machine = nat_lt (cursor_at s machine) (roots_at s machine)

abbrev pub chunk_end : Shared → ℕ → ℕ
chunk_end s machine = min (cursor_at s machine + 64) (roots_at s machine)

abbrev pub claim_answer : Shared → ℕ → Claimed
claim_answer s machine =
    if can_claim s machine then Chunk (cursor_at s machine) (chunk_end s machine) else Exhausted (cursor_at s machine)

abbrev pub after_claim : Shared → ℕ → Shared
after_claim s machine = record s { cursors = slice_set s.cursors machine (chunk_end s machine) }

-- ---- retire: one worker fewer is enrolled
abbrev pub after_retire : Shared → ℕ → Shared
after_retire s machine = record s { enrolled = slice_set s.enrolled machine (enrolled_at s machine - 1) }

-- ---- charge: a credit is taken
abbrev pub can_charge : Shared → ℕ → ℕ → ℕ → Bool
can_charge s from stage to = nat_lt (used_at s from stage to) (limit_of s.shape from to)

abbrev pub charge_answer : Shared → ℕ → ℕ → ℕ → Charge
charge_answer s from stage to = if can_charge s from stage to then Charged else Full (used_at s from stage to)

abbrev pub after_charge : Shared → ℕ → ℕ → ℕ → Shared
after_charge s from stage to = record s { used = slice_set s.used (place s from stage to) (used_at s from stage to + 1) }

-- ---- discharge: a credit is given back
abbrev pub after_discharge : Shared → ℕ → ℕ → ℕ → Shared
after_discharge s from stage to = record s { used = slice_set s.used (place s from stage to) (used_at s from stage to - 1) }

-- ---- fetch: a buffer out of a pool
abbrev pub can_fetch : Shared → ℕ → Bool
can_fetch s machine = nat_lt 0 (pool_at s machine)

abbrev pub empty_buffer : ℕ → ℕ → Batch
empty_buffer home size = record { home = home; size = size; items = [] }

abbrev pub fetch_answer : Shared → ℕ → Option Batch
fetch_answer s machine = if can_fetch s machine then Some (empty_buffer machine s.shape.buffer) else None

abbrev pub after_fetch : Shared → ℕ → Shared
after_fetch s machine = record s { pools = slice_set s.pools machine (pool_at s machine - 1) }

-- ---- restore: a buffer back into its home's pool
abbrev pub after_restore : Shared → ℕ → Shared
after_restore s home = record s { pools = slice_set s.pools home (pool_at s home + 1) }

-- ---- post: a credit's message is on its way
abbrev pub after_post : Shared → ℕ → ℕ → ℕ → Shared
after_post s from stage to = record s { flying = slice_set s.flying (place s from stage to) (flying_at s from stage to + 1) }

-- ---- pick: a credit's message has come
abbrev pub can_pick : Shared → ℕ → ℕ → ℕ → Bool
can_pick s from stage to = nat_lt 0 (flying_at s from stage to)

abbrev pub pick_answer : Shared → ℕ → ℕ → ℕ → Pick
pick_answer s from stage to = if can_pick s from stage to then Picked else NoneFlying (flying_at s from stage to)

abbrev pub after_pick : Shared → ℕ → ℕ → ℕ → Shared
after_pick s from stage to = record s { flying = slice_set s.flying (place s from stage to) (flying_at s from stage to - 1) }

-- ---- push: a message goes last into the inbox of its target and stage
abbrev pub has_space : Extents → Option (List Message) → Bool
has_space shape None = false
has_space shape (Some messages) = nat_lt (length messages) (room_of shape)

abbrev pub can_push : Shared → ℕ → ℕ → Bool
can_push s to stage = has_space s.shape (inbox_at s to stage)

abbrev pub with_last : Message → ℕ → Option (List Message) → List (List Message) → List (List Message)
with_last message at None inboxes = inboxes
with_last message at (Some messages) inboxes = slice_set inboxes at (messages ++ message ∷ [])

abbrev pub after_push : Shared → Message → Shared
after_push s message =
    record s {
      inboxes = with_last message (inbox_place s message.to message.stage) (inbox_at s message.to message.stage) s.inboxes;
    }

-- ---- pop: the first message of an inbox
abbrev pub first_of : List Message → Option Message
first_of [] = None
first_of (message ∷ messages) = Some message

abbrev pub rest_of : List Message → List Message
rest_of [] = []
rest_of (message ∷ messages) = messages

abbrev pub first_in : Option (List Message) → Option Message
first_in None = None
first_in (Some messages) = first_of messages

abbrev pub pop_answer : Shared → ℕ → ℕ → Option Message
pop_answer s machine stage = first_in (inbox_at s machine stage)

abbrev pub without_first : ℕ → Option (List Message) → List (List Message) → List (List Message)
without_first at None inboxes = inboxes
without_first at (Some messages) inboxes = slice_set inboxes at (rest_of messages)

abbrev pub after_pop : Shared → ℕ → ℕ → Shared
after_pop s machine stage =
    record s { inboxes = without_first (inbox_place s machine stage) (inbox_at s machine stage) s.inboxes }

-- ---- mark: a look at a word
abbrev pub mark_answer : Shared → Word → Marked
mark_answer s word = if word_at s word == 0 then Zero else Busy (word_at s word)

-- ---- close: one stage more is closed
abbrev pub after_close : Shared → Shared
after_close s = record s { closed = s.closed + 1 }

-- a message that may be pushed: of a stage and machines that exist, and in a buffer of its sender that isn't empty
pub record IsMessageOf (shape : Extents) (message : Message) : Type 0 where
  pub from : message.from < shape.machines
  pub some_stage : 0 < message.stage
  pub stage : message.stage < shape.stages
  pub to : message.to < shape.machines
  pub home : message.items.home ≡ message.from
  pub size : message.items.size ≡ shape.buffer
  pub some : 0 < length message.items.items
  pub within : length message.items.items ≤ shape.buffer
