-- The text of a run to its end.
use Rattle.std.specs.Prelude.{◌≡◌, ℕ, List, [], ◌∷◌, ◌++◌, codes, map}
use Rattle.std.specs.List.{AllByRecursion}
use Rattle.dfs_worker.specs.declared.event.Event.{Event}
use Rattle.match_context.specs.Tree.{Tree}
use Rattle.match_context.specs.declared.context.Context.{Context}
use Rattle.trace_text.specs.EventLines.{IsEvent, event_line}
use Rattle.trace_text.specs.Headers.{with_feeds}
use Rattle.world_core.specs.Rows.{IsFinished, all_rows}
use Rattle.world_core.specs.Step.{Run}
use Rattle.world_core.specs.World.{World}

-- the lines of events, and the line that says that they are all
abbrev pub run_lines : List Event → List (List ℕ)
run_lines events = map event_line events ++ codes "finished" ∷ []

-- The text is that of a run from this world to that one, in which all stages are closed.
pub record IsRunText (tree : Tree) (start : World) (text : List ℕ) (end : World) : Type 0 where
  pub events : List Event
  pub numbers : AllByRecursion IsEvent events
  pub run : Run tree start events end
  pub finished : IsFinished end
  pub lines : text ≡ with_feeds (run_lines events)

-- The text of a run from this world was written after the old bytes, and the rows are those of its end.
pub record IsWritten (tree : Tree) (start : World) (old new : List ℕ) (rows : List Context) : Type 0 where
  pub end : World
  pub text : List ℕ
  pub is_run : IsRunText tree start text end
  pub after : new ≡ old ++ text
  pub rows_are : rows ≡ all_rows end.workers

-- The lines of the events of a run were written, which led to a finished world.
pub record WritesEvents (tree : Tree) (start : World) (old : List ℕ) (end : World) (new : List ℕ) : Type 0 where
  pub events : List Event
  pub numbers : AllByRecursion IsEvent events
  pub run : Run tree start events end
  pub finished : IsFinished end
  pub lines : new ≡ old ++ with_feeds (map event_line events)
