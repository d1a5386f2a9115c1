use Rattle.world_core.specs.Work.{work_left}
use Rattle.world_progress.proofs.Runs.{GoesOn}
use Rattle.world_progress.proofs.run.run_to_end.Given as goal

abbrev pub invariant-events : goal.invariant-events
invariant-events g l = GoesOn (g.X.Expand.tree l.x) l.fn.world l.world l.fn.steps l.steps l.w

abbrev pub decreases-events : goal.decreases-events
decreases-events g l = work_left (g.X.Expand.tree l.x) l.world
