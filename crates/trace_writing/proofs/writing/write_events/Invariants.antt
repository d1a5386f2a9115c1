use Rattle.world_core.specs.Work.{work_left}
use Rattle.trace_writing.proofs.SoFar.{SoFar}
use Rattle.trace_writing.proofs.writing.write_events.Given as goal

-- A run has led here, and its lines are written.
abbrev pub invariant-events : goal.invariant-events
invariant-events g l = SoFar (g.X.Expand.tree l.x) l.fn.world l.world l.fn.out.items l.out.items

abbrev pub decreases-events : goal.decreases-events
decreases-events g l = work_left (g.X.Expand.tree l.x) l.world
