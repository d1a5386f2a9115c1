-- That some event is always enabled, until all stages are closed.
use Rattle.std.specs.Prelude.{◌≡◌, ℕ, None}
use Rattle.dfs_worker.specs.declared.event.Event.{Event}
use Rattle.world_core.specs.Rows.{IsFinished}
use Rattle.world_core.specs.Sound.{Sound}
use Rattle.world_core.specs.Step.{guard_of, worker_of}
use Rattle.world_core.specs.World.{World}

-- No event of this worker is enabled.
abbrev pub IsIdle : World → ℕ → Type 0
IsIdle w worker = (event : Event) → worker_of event ≡ worker → guard_of w event ≡ None → ⊥

-- No event is enabled.
abbrev pub IsStuck : World → Type 0
IsStuck w = (event : Event) → guard_of w event ≡ None → ⊥

-- A sound world in which no event is enabled is finished.
abbrev pub NeverStuck : Type 0
NeverStuck = (w : World) → Sound w → IsStuck w → IsFinished w
