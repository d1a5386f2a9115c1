-- That a trace is taken again.
use Rattle.std.specs.Prelude.{◌≡◌, ℕ, List, drop, Result, Ok}
use Rattle.std.specs.Str.Lines.{lines}
use Rattle.adfs_base.specs.Shape.{Extents}
use Rattle.match_context.specs.Tree.{Tree}
use Rattle.run_trace.specs.Replay.{replayed}
use Rattle.run_trace.specs.Runs.{begun}
use Rattle.run_trace.specs.declared.replaying.Replayed.{Replayed}
use Rattle.trace_text.specs.Headers.{IsHeader, header_of}
use Rattle.trace_text.specs.declared.fault.ReplayFault.{ReplayFault}
use Rattle.trace_text.specs.declared.header.Header.{Header}
use Rattle.world_core.specs.World.{start_world}
use Rattle.query_traces.specs.Traces.{IsTraceText}

-- what is answered to lines that are to be those of a run from the start
abbrev pub replayed_from_start : Tree → Extents → List (List ℕ) → Result Replayed ReplayFault
replayed_from_start tree shape lines = replayed tree lines (start_world shape tree) (begun (start_world shape tree))

-- The header is read as it was written, and what follows it is a run to its end.
pub record IsTakenAgain (header : Header) (tree : Tree) (shape : Extents) (text : List ℕ) : Type 0 where
  pub header_is : header_of (lines text) ≡ Ok header
  pub told : Replayed
  pub run_is : replayed_from_start tree shape (drop 5 (lines text)) ≡ Ok told

abbrev pub TracesAreTakenAgain : Type 0
TracesAreTakenAgain = (header : Header) (tree : Tree) (shape : Extents) (reply text : List ℕ)
    → IsHeader header → IsTraceText header tree shape reply text → IsTakenAgain header tree shape text
