-- One event of one worker: its guards in their order, and its change.
use Rattle.std.specs.Prelude.{◌≡◌, ℕ, Bool, true, false, not, ◌&&◌, ◌==◌, nat_lt, if◌then◌else◌, List, [], ◌∷◌, slice_get, slice_set, Option, Some, None, is_some}
use Rattle.adfs_base.specs.declared.step_answers.Word.{Word}
use Rattle.adfs_base.specs.declared.step_answers.Word.TheVariants.{Enrolled, Used}
use Rattle.match_context.specs.declared.frame.Frame.{Frame}
use Rattle.match_context.specs.declared.frame.Rest.{Rest}
use Rattle.match_context.specs.declared.frame.Rest.TheVariants as rest
use Rattle.match_context.specs.declared.message.Message.{Message}
use Rattle.match_context.specs.Tree.{Tree}
use Rattle.stage_termination.specs.Marks.{Marks, is_marked, is_ready}
use Rattle.fabric.specs.Calls.{can_claim, chunk_end, after_claim, after_retire, can_charge, after_charge, after_discharge, can_fetch, empty_buffer, after_fetch, after_restore, after_post, can_pick, after_pick, can_push, after_push, pop_answer, after_pop, after_close}
use Rattle.fabric.specs.Shared.{Shared, cursor_at, word_at}
use Rattle.dfs_worker.specs.declared.event.Event.{Event}
use Rattle.dfs_worker.specs.declared.event.Event.TheVariants.{Claim, Retire, Advance, Descend, Append, Charge, Fetch, Post, Push, Pop, Pick, Restore, Discharge, Mark, Close}
use Rattle.dfs_worker.specs.declared.guard.Guard.{Guard}
use Rattle.dfs_worker.specs.declared.guard.Guard.TheVariants as guard
use Rattle.dfs_worker.specs.declared.hand.Hand.{Hand}
use Rattle.dfs_worker.specs.declared.hand.Hand.TheVariants.{Free, Charged, Posted, Popped, Emptied}
use Rattle.dfs_worker.specs.Guards.{own_guard, must}
use Rattle.dfs_worker.specs.Own.{claimed, retired, advanced, descended, appended, charged, fetched, posted, freed, popped, picked, restored, event_word, marked}
use Rattle.dfs_worker.specs.State.{State, waiting}
use Rattle.world_core.specs.World.{World}

-- the number of the event's worker
abbrev pub worker_of : Event → ℕ
worker_of (Claim w) = w
worker_of (Retire w) = w
worker_of (Advance w) = w
worker_of (Descend w) = w
worker_of (Append w) = w
worker_of (Charge w) = w
worker_of (Fetch w) = w
worker_of (Post w stage to) = w
worker_of (Push w) = w
worker_of (Pop w stage) = w
worker_of (Pick w) = w
worker_of (Restore w) = w
worker_of (Discharge w) = w
worker_of (Mark w a b) = w
worker_of (Close w) = w

-- ---- what an event asks of what is shared
-- a test of the message in a posted hand, or in a popped one
abbrev pub posted_test : (Message → Bool) → Hand → Bool
posted_test test Free = false
posted_test test (Charged stage to) = false
posted_test test (Posted message) = test message
posted_test test (Popped message) = false
posted_test test (Emptied from stage) = false

abbrev pub popped_test : (Message → Bool) → Hand → Bool
popped_test test Free = false
popped_test test (Charged stage to) = false
popped_test test (Posted message) = false
popped_test test (Popped message) = test message
popped_test test (Emptied from stage) = false

-- whether a credit is left for the waiting child
abbrev pub can_charge_for : Shared → ℕ → Option (ℕ × ℕ) → Bool
can_charge_for s machine None = false
can_charge_for s machine (Some child) = can_charge s machine child.0 child.1

-- The words of stage 0 are (a, 0) for each machine a, those of a later stage (a, b) for each pair of machines.
abbrev pub is_event_word : Shared → ℕ → ℕ → Bool
is_event_word s a b =
    nat_lt s.closed s.shape.stages
    && (nat_lt a s.shape.machines && (if s.closed == 0 then b == 0 else nat_lt b s.shape.machines))

-- whether the marks, where they are of the stage that closes next, have this word, or all
abbrev pub has_mark : Marks → ℕ → Word → Bool
has_mark marks closed word = (marks.stage == closed) && is_marked marks word

abbrev pub has_all_marks : Marks → ℕ → Bool
has_all_marks marks closed = (marks.stage == closed) && is_ready marks

-- whether that word exists, is 0, and isn't marked
abbrev pub can_mark : Shared → Marks → ℕ → ℕ → Bool
can_mark s marks a b =
    is_event_word s a b
    && ((word_at s (event_word s.closed a b) == 0) && not (has_mark marks s.closed (event_word s.closed a b)))

abbrev pub shared_guard : Event → State → Shared → Option Guard
shared_guard (Claim w) v s = must (can_claim s v.machine) guard.Roots None
shared_guard (Retire w) v s = must (not (can_claim s v.machine)) guard.Roots None
shared_guard (Advance w) v s = None
shared_guard (Descend w) v s = None
shared_guard (Append w) v s = None
shared_guard (Charge w) v s = must (can_charge_for s v.machine (waiting v.stack)) guard.Limit None
shared_guard (Fetch w) v s = must (can_fetch s v.machine) guard.Pool None
shared_guard (Post w stage to) v s = None
shared_guard (Push w) v s = must (posted_test (λ message. can_push s message.to message.stage) v.hand) guard.Inbox None
shared_guard (Pop w stage) v s = must (is_some (pop_answer s v.machine stage)) guard.Inbox None
shared_guard (Pick w) v s = must (popped_test (λ message. can_pick s message.from message.stage message.to) v.hand) guard.Flying None
shared_guard (Restore w) v s = None
shared_guard (Discharge w) v s = None
shared_guard (Mark w a b) v s = must (can_mark s v.marks a b) guard.Word None
shared_guard (Close w) v s = must (has_all_marks v.marks s.closed) guard.Marks None

-- the first of the one, then of the other
abbrev pub then_guard : Option Guard → Option Guard → Option Guard
then_guard None later = later
then_guard (Some guard) later = Some guard

abbrev pub guard_at : Event → Option State → Shared → Option Guard
guard_at event None s = Some guard.Worker
guard_at event (Some v) s = then_guard (own_guard event v) (shared_guard event v s)

-- the first guard of the event that fails
abbrev pub guard_of : World → Event → Option Guard
guard_of world event = guard_at event (slice_get world.workers (worker_of event)) world.shared

-- ---- what an event does to its worker
abbrev pub popped_as : Option Message → State → State
popped_as None v = v
popped_as (Some message) v = popped message v

abbrev pub own_part : Tree → Event → Shared → State → State
own_part tree (Claim w) s v = claimed tree (cursor_at s v.machine) (chunk_end s v.machine) v
own_part tree (Retire w) s v = retired v
own_part tree (Advance w) s v = advanced tree v
own_part tree (Descend w) s v = descended v
own_part tree (Append w) s v = appended v
own_part tree (Charge w) s v = charged v
own_part tree (Fetch w) s v = fetched (empty_buffer v.machine s.shape.buffer) v
own_part tree (Post w stage to) s v = posted stage to v
own_part tree (Push w) s v = freed v
own_part tree (Pop w stage) s v = popped_as (pop_answer s v.machine stage) v
own_part tree (Pick w) s v = picked v
own_part tree (Restore w) s v = restored v
own_part tree (Discharge w) s v = freed v
own_part tree (Mark w a b) s v = marked s.closed (event_word s.closed a b) v
own_part tree (Close w) s v = v

-- ---- and to what is shared
abbrev pub charged_for : Option (ℕ × ℕ) → ℕ → Shared → Shared
charged_for None machine s = s
charged_for (Some child) machine s = after_charge s machine child.0 child.1

abbrev pub pushed_from : Hand → Shared → Shared
pushed_from Free s = s
pushed_from (Charged stage to) s = s
pushed_from (Posted message) s = after_push s message
pushed_from (Popped message) s = s
pushed_from (Emptied from stage) s = s

abbrev pub picked_from : Hand → Shared → Shared
picked_from Free s = s
picked_from (Charged stage to) s = s
picked_from (Posted message) s = s
picked_from (Popped message) s = after_pick s message.from message.stage message.to
picked_from (Emptied from stage) s = s

abbrev pub restored_rest : Rest → Shared → Shared
restored_rest rest.None s = s
restored_rest (rest.Roots next end) s = s
restored_rest (rest.Items message next over) s = after_restore s message.items.home

abbrev pub restored_from : List Frame → Shared → Shared
restored_from [] s = s
restored_from (frame ∷ frames) s = restored_rest frame.rest s

abbrev pub discharged_from : Hand → ℕ → Shared → Shared
discharged_from Free machine s = s
discharged_from (Charged stage to) machine s = s
discharged_from (Posted message) machine s = s
discharged_from (Popped message) machine s = s
discharged_from (Emptied from stage) machine s = after_discharge s from stage machine

abbrev pub shared_part : Event → State → Shared → Shared
shared_part (Claim w) v s = after_claim s v.machine
shared_part (Retire w) v s = after_retire s v.machine
shared_part (Advance w) v s = s
shared_part (Descend w) v s = s
shared_part (Append w) v s = s
shared_part (Charge w) v s = charged_for (waiting v.stack) v.machine s
shared_part (Fetch w) v s = after_fetch s v.machine
shared_part (Post w stage to) v s = after_post s v.machine stage to
shared_part (Push w) v s = pushed_from v.hand s
shared_part (Pop w stage) v s = after_pop s v.machine stage
shared_part (Pick w) v s = picked_from v.hand s
shared_part (Restore w) v s = restored_from v.stack s
shared_part (Discharge w) v s = discharged_from v.hand v.machine s
shared_part (Mark w a b) v s = s
shared_part (Close w) v s = after_close s

-- ---- the step
abbrev pub happens_at : Tree → World → Event → Option State → World
happens_at tree world event None = world
happens_at tree world event (Some v) =
    record {
      workers = slice_set world.workers (worker_of event) (own_part tree event world.shared v);
      shared = shared_part event v world.shared;
    }

-- the world after the event
abbrev pub happens : Tree → World → Event → World
happens tree world event = happens_at tree world event (slice_get world.workers (worker_of event))

-- All guards of the event hold, and the new world is the old one with the event's change alone.
pub record Step (tree : Tree) (old : World) (event : Event) (new : World) : Type 0 where
  pub enabled : guard_of old event ≡ None
  pub change : new ≡ happens tree old event

-- the steps one after the other
abbrev pub Run : Tree → World → List Event → World → Type 0
Run tree old [] new = new ≡ old
Run tree old (event ∷ events) new = (mid : World) × (Step tree old event mid × Run tree mid events new)
