-- Which stages can still be reached.
use Rattle.std.specs.Prelude.{◌≡◌, ℕ, ◌<◌, ◌≤◌, Bool, true, List, slice_get, Some}
use Rattle.match_context.specs.declared.frame.Frame.{Frame}
use Rattle.match_context.specs.declared.message.Message.{Message}
use Rattle.fabric.specs.Shared.{cursor_at, roots_at, inbox_at}
use Rattle.dfs_worker.specs.declared.hand.Hand.{Hand}
use Rattle.dfs_worker.specs.declared.hand.Hand.TheVariants.{Free, Charged, Posted, Popped, Emptied}
use Rattle.dfs_worker.specs.Slots.{open_at}
use Rattle.dfs_worker.specs.State.{State}
use Rattle.world_core.specs.World.{World}

-- the hand isn't free, and its stage is at most this one
abbrev pub HandReaches : ℕ → Hand → Type 0
HandReaches stage Free = ⊥
HandReaches stage (Charged of to) = of ≤ stage
HandReaches stage (Posted message) = message.stage ≤ stage
HandReaches stage (Popped message) = message.stage ≤ stage
HandReaches stage (Emptied from of) = of ≤ stage

-- A stage can be reached while a worker is enrolled, a root is unclaimed, or a frame, an open buffer, a message or a
-- hand is of it or of an earlier one.
pub data CanReach (w : World) (stage : ℕ) : Type 0 where
  ByWorker : (i : ℕ) → (v : State) → slice_get w.workers i ≡ Some v → v.enrolled ≡ true → CanReach w stage
  ByRoot : (machine : ℕ) → machine < w.shared.shape.machines → cursor_at w.shared machine < roots_at w.shared machine → CanReach w stage
  ByFrame : (i at : ℕ) → (v : State) → (frame : Frame) → slice_get w.workers i ≡ Some v → slice_get v.stack at ≡ Some frame → frame.stage ≤ stage → CanReach w stage
  ByBuffer : (i of to : ℕ) → (v : State) → (message : Message) → slice_get w.workers i ≡ Some v → open_at v.slots of to ≡ Some message → of ≤ stage → CanReach w stage
  ByMessage : (machine of at : ℕ) → (messages : List Message) → (message : Message) → inbox_at w.shared machine of ≡ Some messages → slice_get messages at ≡ Some message → of ≤ stage → CanReach w stage
  ByHand : (i : ℕ) → (v : State) → slice_get w.workers i ≡ Some v → HandReaches stage v.hand → CanReach w stage
