-- The rows of all workers.
use Rattle.std.specs.Prelude.{◌≡◌, ℕ, List, [], ◌∷◌, ◌++◌, zero, suc}
use Rattle.adfs_base.specs.Shape.{Extents, IsShape}
use Rattle.match_context.specs.declared.context.Context.{Context}
use Rattle.match_context.specs.Bags.{SameBag}
use Rattle.match_context.specs.Leaves.{tree_leaves}
use Rattle.match_context.specs.Tree.{Tree, IsTree}
use Rattle.dfs_worker.specs.declared.event.Event.{Event}
use Rattle.dfs_worker.specs.State.{State}
use Rattle.world_core.specs.Step.{Run}
use Rattle.world_core.specs.World.{World, start_world}

-- in the order of the workers
abbrev pub all_rows : List State → List Context
all_rows [] = []
all_rows (worker ∷ workers) = worker.rows ++ all_rows workers

-- the rows of one worker, and the workers when these are taken
abbrev pub rows_at : List State → ℕ → List Context
rows_at [] i = []
rows_at (worker ∷ workers) zero = worker.rows
rows_at (worker ∷ workers) (suc i) = rows_at workers i

abbrev pub without_rows_at : List State → ℕ → List State
without_rows_at [] i = []
without_rows_at (worker ∷ workers) zero = record worker { rows = [] } ∷ workers
without_rows_at (worker ∷ workers) (suc i) = worker ∷ without_rows_at workers i

-- All stages are closed.
abbrev pub IsFinished : World → Type 0
IsFinished w = w.shared.closed ≡ w.shared.shape.stages

-- Whatever the events and their order, the rows of a finished world are the leaves of the tree, each as often as it stands there.
abbrev pub RowsAreLeaves : Type 0
RowsAreLeaves =
    (shape : Extents) (tree : Tree) (events : List Event) (w : World) → IsShape shape → IsTree tree → shape.stages ≡ tree.stages → shape.machines ≡ tree.machines →
    Run tree (start_world shape tree) events w → IsFinished w → SameBag (all_rows w.workers) (tree_leaves tree)
