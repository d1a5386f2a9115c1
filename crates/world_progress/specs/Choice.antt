-- Which events are tried for a worker.
use Rattle.std.specs.Prelude.{◌≡◌, ℕ, List, [], ◌∷◌, slice_get, Some, None}
use Rattle.bfs_budget.specs.declared.tries.Attempt.{Attempt}
use Rattle.bfs_budget.specs.declared.tries.Attempt.TheVariants as attempt
use Rattle.dfs_worker.specs.declared.event.Event.{Event}
use Rattle.dfs_worker.specs.declared.event.Event.TheVariants as event
use Rattle.world_core.specs.Step.{guard_of, worker_of}
use Rattle.world_core.specs.World.{World}

-- An enabled event of this worker.
pub record IsNext (w : World) (worker : ℕ) (event : Event) : Type 0 where
  pub own : worker_of event ≡ worker
  pub enabled : guard_of w event ≡ None

-- The event isn't enabled.
abbrev pub IsOff : World → Event → Type 0
IsOff w event = guard_of w event ≡ None → ⊥

-- No event of this worker and attempt is enabled. What is posted of its own may be posted as one of the others, too.
abbrev pub Fails : World → ℕ → Attempt → Type 0
Fails w worker attempt.Hand =
    IsOff w (event.Fetch worker) × IsOff w (event.Push worker) × IsOff w (event.Pick worker) × IsOff w (event.Discharge worker)
Fails w worker attempt.Restore = IsOff w (event.Restore worker)
Fails w worker attempt.Advance = IsOff w (event.Advance worker)
Fails w worker attempt.PostOwn = Unit {0}
Fails w worker attempt.Append = IsOff w (event.Append worker)
Fails w worker attempt.Charge = IsOff w (event.Charge worker)
Fails w worker attempt.Descend = IsOff w (event.Descend worker)
Fails w worker attempt.PostOthers = (stage to : ℕ) → IsOff w (event.Post worker stage to)
Fails w worker attempt.Pop = (stage : ℕ) → IsOff w (event.Pop worker stage)
Fails w worker attempt.Claim = IsOff w (event.Claim worker)
Fails w worker attempt.Retire = IsOff w (event.Retire worker)
Fails w worker attempt.Mark = (a b : ℕ) → IsOff w (event.Mark worker a b)
Fails w worker attempt.Close = IsOff w (event.Close worker)

-- Nor any of these attempts.
abbrev pub AllFail : World → ℕ → List Attempt → Type 0
AllFail w worker attempts = (at : ℕ) (attempt : Attempt) → slice_get attempts at ≡ Some attempt → Fails w worker attempt

-- what a worker may try whose top waits with a child, and on an empty stack
abbrev pub waiting_list : List Attempt
waiting_list =
    attempt.PostOwn ∷ attempt.Append ∷ attempt.Charge ∷ attempt.Descend ∷ attempt.PostOthers ∷ attempt.Pop ∷ attempt.Mark
    ∷ attempt.Close ∷ []

abbrev pub empty_list : List Attempt
empty_list = attempt.Pop ∷ attempt.PostOthers ∷ attempt.Claim ∷ attempt.Retire ∷ attempt.Mark ∷ attempt.Close ∷ []
