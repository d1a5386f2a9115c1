-- The most that stands outside the pools at any moment, which the shape alone determines.
use Rattle.std.specs.Prelude.{◌≡◌, ◌≤◌, List}
use Rattle.adfs_base.specs.Shape.{Extents, IsShape, need_of, contexts_of}
use Rattle.match_context.specs.Tree.{Tree, IsTree}
use Rattle.dfs_worker.specs.declared.event.Event.{Event}
use Rattle.world_core.specs.Gauge.{gauge_of}
use Rattle.world_core.specs.Step.{Run}
use Rattle.world_core.specs.World.{World, start_world}
use Rattle.world_core.specs.declared.gauge.Gauge.{Gauge}

pub record Bound (shape : Extents) (gauge : Gauge) : Type 0 where
  -- as many buffers as all credits allow
  pub buffers : gauge.buffers ≤ need_of shape
  -- those full, and for each worker and stage a frame's context and a waiting child
  pub contexts : gauge.contexts ≤ contexts_of shape

-- Whatever the events and their order, no more stands outside the pools: a run's fronts are runs, so this holds at every
-- step.
abbrev pub RunsAreBounded : Type 0
RunsAreBounded =
    (shape : Extents) (tree : Tree) (events : List Event) (w : World) → IsShape shape → IsTree tree → shape.stages ≡ tree.stages → shape.machines ≡ tree.machines →
    Run tree (start_world shape tree) events w → Bound shape (gauge_of w)
