-- What every step keeps, whichever worker makes it.
use Rattle.std.specs.Prelude.{◌≡◌, ℕ, ◌+◌, ◌*◌, ◌<◌, ◌≤◌, Bool, true, false, ◌&&◌, ◌==◌, List, [], ◌∷◌, length, slice_get, Option, Some, None}
use Rattle.adfs_base.specs.Shape.{Extents, limit_of, pool_of}
use Rattle.match_context.specs.Bags.{total}
use Rattle.match_context.specs.declared.message.Message.{Message}
use Rattle.fabric.specs.Calls.{IsMessageOf}
use Rattle.adfs_base.specs.declared.step_answers.Word.{Word}
use Rattle.stage_termination.specs.Marks.{Marks, words_of, is_marked}
use Rattle.fabric.specs.Shared.{Shared, IsShared, IsUnit, IsWorkerOf, machine_of, used_at, flying_at, roots_at, cursor_at, enrolled_at, pool_at, inbox_place, word_at}
use Rattle.dfs_worker.specs.Census.{Census, count, credits_of, flying_of, buffers_of, one, is_word, of_message}
use Rattle.dfs_worker.specs.Sound.{IsWorker, WithinRoots}
use Rattle.dfs_worker.specs.State.{State}
use Rattle.world_core.specs.World.{World}

-- the messages of a sender, stage and target in an inbox
abbrev pub queued : ℕ → ℕ → ℕ → List Message → ℕ
queued from stage to messages = total (λ message. one (is_word from stage to message.from message.stage message.to)) messages

-- the buffers of a home in an inbox
abbrev pub homes_in : ℕ → List Message → ℕ
homes_in home messages = total (λ message. one (message.items.home == home)) messages

-- the worker is enrolled at the machine
abbrev pub enrolled_of : ℕ → State → ℕ
enrolled_of machine v = one (v.enrolled && (v.machine == machine))

-- A message in an inbox is of that machine and stage. So the inboxes of stage 0 are empty.
abbrev pub AreMessages : Shared → Type 0
AreMessages s =
    (machine stage i : ℕ) (messages : List Message) (message : Message) → stage < s.shape.stages →
    slice_get s.inboxes (inbox_place s machine stage) ≡ Some messages → slice_get messages i ≡ Some message →
    IsMessageOf s.shape message × (message.to ≡ machine) × (message.stage ≡ stage)

-- Each worker has its number, its machine and the shape of all.
pub record IsPlaced (s : Shared) (i : ℕ) (v : State) : Type 0 where
  pub number : v.number ≡ i
  pub machine : v.machine ≡ machine_of s i
  pub shape : v.shape ≡ s.shape

-- Nothing of a closed stage is left: no worker is enrolled, and none of its credits is taken.
pub record AreClosed (s : Shared) : Type 0 where
  pub enrolled : 0 < s.closed → (machine : ℕ) → machine < s.shape.machines → enrolled_at s machine ≡ 0
  pub used : (from stage to : ℕ) → IsUnit s from stage to → stage < s.closed → used_at s from stage to ≡ 0

-- No mark is of a stage that is still to come. Those of the stage that closes next are of words that are 0.
pub record AreMarks (s : Shared) (marks : Marks) : Type 0 where
  pub places : length marks.marked ≡ words_of marks.machines marks.stages marks.stage
  pub stage : marks.stage ≤ s.closed
  pub seen : marks.stage ≡ s.closed → (word : Word) → is_marked marks word ≡ true → word_at s word ≡ 0

pub record Sound (w : World) : Type 0 where
  pub tables : IsShared w.shared
  pub number_of_workers : length w.workers ≡ w.shared.shape.machines * w.shared.shape.workers
  pub placed : (i : ℕ) (v : State) → slice_get w.workers i ≡ Some v → IsPlaced w.shared i v
  -- a credit is taken for each message on its way and for each buffer that is open, in a message frame, or about to
  -- be opened or counted back
  pub used : (from stage to : ℕ) → IsUnit w.shared from stage to →
      used_at w.shared from stage to ≡ flying_at w.shared from stage to + total (count (credits_of from stage to)) w.workers
  -- a message is on its way while it is in an inbox, or in the hand of its sender or receiver
  pub flying : (from stage to : ℕ) → IsUnit w.shared from stage to →
      flying_at w.shared from stage to ≡ total (queued from stage to) w.shared.inboxes + total (count (flying_of from stage to)) w.workers
  pub limits : (from stage to : ℕ) → IsUnit w.shared from stage to → used_at w.shared from stage to ≤ limit_of w.shared.shape from to
  -- what each worker keeps: rising stages, where frames stand, one open buffer a place, its hand and its messages
  pub own : (i : ℕ) (v : State) → slice_get w.workers i ≡ Some v → IsWorker v
  -- no buffer is made or lost
  pub pools : (home : ℕ) → home < w.shared.shape.machines →
      pool_at w.shared home + total (homes_in home) w.shared.inboxes + total (count (buffers_of home)) w.workers ≡ pool_of w.shared.shape
  pub enrolled : (machine : ℕ) → machine < w.shared.shape.machines → enrolled_at w.shared machine ≡ total (enrolled_of machine) w.workers
  -- who has retired has left no root
  pub retired : (i : ℕ) (v : State) → slice_get w.workers i ≡ Some v → v.enrolled ≡ false → cursor_at w.shared v.machine ≡ roots_at w.shared v.machine
  pub messages : AreMessages w.shared
  pub cursors : (machine : ℕ) → machine < w.shared.shape.machines → cursor_at w.shared machine ≤ roots_at w.shared machine
  -- the later roots of a root frame are claimed
  pub claimed : (i : ℕ) (v : State) → slice_get w.workers i ≡ Some v → WithinRoots (cursor_at w.shared v.machine) v.stack
  pub closed : AreClosed w.shared
  pub marks : (i : ℕ) (v : State) → slice_get w.workers i ≡ Some v → AreMarks w.shared v.marks
