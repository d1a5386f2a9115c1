use Rattle.std.proofs.Common.{◌≡◌, ◌≤◌, ◌+◌, length}
use Rattle.std.specs.Str.Lines.{lines}
use Rattle.world_core.specs.Gauge.{gauge_of}
use Rattle.world_core.specs.World.{Fits}
use Rattle.run_trace.specs.Replay.{replayed}
use Rattle.run_trace.specs.Rowless.{IsRowless}
use Rattle.run_trace.specs.Runs.{begun}
use Rattle.run_trace.proofs.replaying.replay_lines.Given as goal

-- What is left is answered as the whole is, no worker has a row, and each event that was made took a line.
abbrev pub invariant-lines : goal.invariant-lines
invariant-lines g l = record {
  fits : Fits (g.X.Expand.tree l.x) l.world.shared;
  rowless : IsRowless l.world;
  same : replayed (g.X.Expand.tree l.x) (lines l.text) l.fn.world (begun l.fn.world) ≡ replayed (g.X.Expand.tree l.x) l.lines l.world l.so_far;
  counted : l.gauge ≡ gauge_of l.world;
  few : l.so_far.events + length l.lines ≤ length l.text + 1;
}

abbrev pub decreases-lines : goal.decreases-lines
decreases-lines g l = length l.lines
