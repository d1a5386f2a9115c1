-- A text is taken again exactly where it is the lines of a legal run to a finished world.
use Rattle.std.specs.Prelude.{◌≡◌, ◌↔◌, ℕ, List, [], ◌∷◌, ◌++◌, codes, length, map, Ok}
use Rattle.std.specs.List.{AllByRecursion}
use Rattle.dfs_worker.specs.declared.event.Event.{Event}
use Rattle.match_context.specs.Tree.{Tree}
use Rattle.trace_text.specs.EventLines.{IsEvent, event_line}
use Rattle.world_core.specs.declared.gauge.Gauge.{Gauge}
use Rattle.world_core.specs.Gauge.{gauge_of}
use Rattle.world_core.specs.Rows.{IsFinished}
use Rattle.world_core.specs.Step.{Run, happens}
use Rattle.world_core.specs.World.{World}
use Rattle.run_trace.specs.declared.replaying.Replayed.{Replayed}
use Rattle.run_trace.specs.Replay.{greater, replayed}

-- the greatest that stood outside the pools, each number by itself, from a world on
abbrev pub greatest : Tree → World → Gauge → List Event → Gauge
greatest tree w most [] = most
greatest tree w most (event ∷ events) = greatest tree (happens tree w event) (greater most (gauge_of (happens tree w event))) events

-- The lines are those of a run from here to a finished world, and then `finished`.
pub record IsReplay (tree : Tree) (start : World) (lines : List (List ℕ)) (told : Replayed) : Type 0 where
  pub events : List Event
  pub numbers : AllByRecursion IsEvent events
  pub end : World
  pub run : Run tree start events end
  pub finished : IsFinished end
  pub rest : List (List ℕ)
  pub text : lines ≡ map event_line events ++ codes "finished" ∷ rest
  pub count : told.events ≡ length events
  pub most : told.most ≡ greatest tree start (gauge_of start) events

abbrev pub begun : World → Replayed
begun start = record { events = 0; most = gauge_of start }

abbrev pub ReplaysAreRuns : Type 0
ReplaysAreRuns =
    (tree : Tree) (start : World) (lines : List (List ℕ)) (told : Replayed) → (replayed tree lines start (begun start) ≡ Ok told) ↔ IsReplay tree start lines told
