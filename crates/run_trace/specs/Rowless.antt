-- A world whose rows were let go.
use Rattle.std.specs.Prelude.{◌≡◌, ℕ, List, [], Some}
use Rattle.std.specs.List.{AllByRecursion}
use Rattle.dfs_worker.specs.declared.event.Event.{Event}
use Rattle.dfs_worker.specs.State.{State}
use Rattle.match_context.specs.Tree.{Tree}
use Rattle.trace_text.specs.Reading.{event_of}
use Rattle.world_core.specs.Step.{Step, worker_of}
use Rattle.world_core.specs.World.{World}

abbrev pub HasNoRow : State → Type 0
HasNoRow worker = worker.rows ≡ []

-- No worker has a row.
abbrev pub IsRowless : World → Type 0
IsRowless w = AllByRecursion HasNoRow w.workers

-- The line is that of an event of this worker, which was made.
pub record IsMadeBy (tree : Tree) (old : World) (line : List ℕ) (worker : ℕ) (new : World) : Type 0 where
  pub event : Event
  pub said : event_of line ≡ Some event
  pub whose : worker ≡ worker_of event
  pub step : Step tree old event new
