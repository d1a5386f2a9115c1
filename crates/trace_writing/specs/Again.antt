-- That a written run is taken again.
use Rattle.std.specs.Prelude.{◌≡◌, ℕ, List, ◌++◌, length, Ok}
use Rattle.std.specs.Str.Lines.{lines}
use Rattle.match_context.specs.Tree.{Tree}
use Rattle.run_trace.specs.Replay.{replayed}
use Rattle.run_trace.specs.Runs.{begun}
use Rattle.run_trace.specs.declared.replaying.Replayed.{Replayed}
use Rattle.world_core.specs.World.{World}
use Rattle.trace_writing.specs.Written.{IsRunText}

-- Where a text is that of a run, it is taken again, whatever follows it.
abbrev pub WrittenRunsAreTakenAgain : Type 0
WrittenRunsAreTakenAgain =
    (tree : Tree) (start end : World) (text rest : List ℕ) (run : IsRunText tree start text end)
    → (told : Replayed) × (replayed tree (lines (text ++ rest)) start (begun start) ≡ Ok told) × (told.events ≡ length run.events)
