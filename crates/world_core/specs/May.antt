-- What one worker and what is shared must have, beside the guards of an event, for its calls to be allowed.
use Rattle.std.specs.Prelude.{◌≡◌, ℕ, ◌+◌, ◌<◌, ◌≤◌, Bool, true, None}
use Rattle.adfs_base.specs.Shape.{pool_of}
use Rattle.match_context.specs.Tree.{Tree}
use Rattle.fabric.specs.Shared.{Shared, IsShared, IsUnit, IsWorkerOf, used_at, flying_at, roots_at, cursor_at, enrolled_at, pool_at}
use Rattle.dfs_worker.specs.declared.event.Event.{Event}
use Rattle.dfs_worker.specs.Census.{count, credits_of, buffers_of}
use Rattle.dfs_worker.specs.Guards.{own_guard}
use Rattle.dfs_worker.specs.Sound.{IsWorker, WithinRoots}
use Rattle.dfs_worker.specs.State.{State}
use Rattle.world_core.specs.Sound.{IsPlaced}
use Rattle.world_core.specs.Step.{shared_guard}
use Rattle.world_core.specs.World.{Fits}

-- The worker is one of a sound world: its part of what every step keeps.
pub record IsPart (s : Shared) (v : State) : Type 0 where
  pub tables : IsShared s
  pub worker : IsWorker v
  pub placed : IsPlaced s v.number v
  pub there : IsWorkerOf s v.number
  pub claimed : WithinRoots (cursor_at s v.machine) v.stack
  pub cursors : cursor_at s v.machine ≤ roots_at s v.machine
  pub credits : (from stage to : ℕ) → IsUnit s from stage to → flying_at s from stage to + count (credits_of from stage to) v ≤ used_at s from stage to
  pub buffers : (home : ℕ) → home < s.shape.machines → pool_at s home + count (buffers_of home) v ≤ pool_of s.shape
  pub enrolled : v.enrolled ≡ true → 0 < enrolled_at s v.machine

-- Of such a worker all guards of the event hold.
pub record May (event : Event) (s : Shared) (v : State) : Type 0 where
  pub part : IsPart s v
  pub own : own_guard event v ≡ None
  pub shared : shared_guard event v s ≡ None
