use Rattle.std.proofs.Common.{drop}
use Rattle.dfs_worker.specs.State.{State}
use Rattle.dfs_worker.specs.declared.turn.Turn.{Turn}
use Rattle.dfs_worker.specs.Turn.{Fits, IsTurn}
use Rattle.dfs_worker.proofs.Rounds.{Alike, tries_at}
use Rattle.dfs_worker.proofs.turns.sweep.Given as goal

-- whatever the attempts from here on answer, the whole answers
abbrev pub invariant-loop-attempt : goal.invariant-loop-attempt
invariant-loop-attempt g l = record {
  alike : Alike l.fn.worker l.worker;
  fits : Fits g.F.Fabric.agrees g.F.Fabric.shape g.F.Fabric.roots (g.X.Expand.tree l.x) l.worker l.fabric;
  so_far : (turn : Turn) (v : State) (f : _) → IsTurn g.F.Fabric.done g.F.Fabric.excused (g.X.Expand.tree l.x) l.worker l.fabric (tries_at l.fn.worker (drop l.attempt-index l.attempts)) turn v f →
      IsTurn g.F.Fabric.done g.F.Fabric.excused (g.X.Expand.tree l.x) l.fn.worker l.fn.fabric (tries_at l.fn.worker l.attempts) turn v f;
}
