-- What a step answers, and what it leaves.
use Rattle.std.specs.Prelude.{◌≡◌, ℕ, slice_get, Option, Some, None, Result, Ok, Err}
use Rattle.adfs_base.specs.declared.no_memory.NoMemory as base
use Rattle.match_context.specs.Tree.{Tree}
use Rattle.dfs_worker.specs.declared.event.Event.{Event}
use Rattle.dfs_worker.specs.declared.event.Event.TheVariants.{Advance}
use Rattle.dfs_worker.specs.Own.{AddsRow}
use Rattle.dfs_worker.specs.State.{State}
use Rattle.world_core.specs.declared.stepped.Stepped.{Stepped}
use Rattle.world_core.specs.declared.stepped.Stepped.TheVariants.{Done, NotEnabled, NoMemory}
use Rattle.world_core.specs.Step.{Step, guard_of, worker_of}
use Rattle.world_core.specs.World.{World}

-- The event adds a row: the next answer of its worker's top is one.
pub record AddsARow (tree : Tree) (w : World) (event : Event) : Type 0 where
  pub worker : State
  pub at : slice_get w.workers (worker_of event) ≡ Some worker
  pub advances : event ≡ Advance worker.number
  pub row : AddsRow tree worker.machine worker.stack

abbrev pub IsStepped : Tree → World → Event → Stepped → World → Type 0
IsStepped tree old event Done new = Step tree old event new
IsStepped tree old event (NotEnabled guard) new = (guard_of old event ≡ Some guard) × (new ≡ old)
IsStepped tree old event NoMemory new = (guard_of old event ≡ None) × (new ≡ old) × AddsARow tree old event

-- the answer where all guards hold
abbrev pub stepped_of : Result (Unit {0}) base.NoMemory → Stepped
stepped_of (Ok made) = Done
stepped_of (Err lack) = NoMemory

-- what holds where the event's change was made
abbrev pub IfDone : Stepped → Type 0 → Type 0
IfDone Done fact = fact
IfDone (NotEnabled guard) fact = Unit {0}
IfDone NoMemory fact = Unit {0}
