-- The workers of a world and the turns over what they share.
use Rattle.std.specs.Prelude.{◌≡◌, ℕ, List, slice_get, Some}
use Rattle.adfs_base.specs.Shape.{Extents, IsShape}
use Rattle.match_context.specs.Tree.{Tree, IsTree}
use Rattle.fabric.specs.Plain.{PlainAgrees, plain_shape}
use Rattle.fabric.specs.Shared.{roots_at}
use Rattle.dfs_worker.specs.Turn as turn
use Rattle.dfs_worker.specs.declared.event.Event.{Event}
use Rattle.dfs_worker.specs.State.{State}
use Rattle.world_core.specs.Step.{Run}
use Rattle.world_core.specs.World.{World, start_world}

-- Whatever the events and their order, each worker meets what a turn over the plain fabric asks for.
abbrev pub WorkersMayTurn : Type 0
WorkersMayTurn =
    (shape : Extents) (tree : Tree) (events : List Event) (w : World) (i : ℕ) (v : State) → IsShape shape → IsTree tree → shape.stages ≡ tree.stages → shape.machines ≡ tree.machines →
    Run tree (start_world shape tree) events w → slice_get w.workers i ≡ Some v → turn.Fits PlainAgrees plain_shape roots_at tree v w.shared
