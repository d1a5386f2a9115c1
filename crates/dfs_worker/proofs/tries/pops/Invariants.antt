use Rattle.std.proofs.Common.{◌≡◌, ◌≤◌, ◌-◌}
use Rattle.dfs_worker.specs.State.{State}
use Rattle.dfs_worker.specs.declared.turn.Turn.{Turn}
use Rattle.dfs_worker.specs.Turn.{Fits, IsTurn, pops_from, lowest_pop}
use Rattle.dfs_worker.proofs.tries.pops.Given as goal

-- whatever the stages from here down answer, the whole answers
abbrev pub invariant-loop-stage : goal.invariant-loop-stage
invariant-loop-stage g l = record {
  same : l.worker ≡ l.fn.worker;
  low : l.stage ≤ l.fn.worker.shape.stages;
  fits : Fits g.F.Fabric.agrees g.F.Fabric.shape g.F.Fabric.roots (g.X.Expand.tree l.x) l.worker l.fabric;
  lowest_is : l.lowest ≡ lowest_pop l.fn.worker.stack;
  so_far : (turn : Turn) (v : State) (f : _) → IsTurn g.F.Fabric.done g.F.Fabric.excused (g.X.Expand.tree l.x) l.worker l.fabric (pops_from l.fn.worker.number l.lowest (l.stage - l.lowest))
      turn v f →
      IsTurn g.F.Fabric.done g.F.Fabric.excused (g.X.Expand.tree l.x) l.fn.worker l.fn.fabric (pops_from l.fn.worker.number l.lowest (l.fn.worker.shape.stages - l.lowest)) turn v f;
}

abbrev pub decreases-loop-stage : goal.decreases-loop-stage
decreases-loop-stage g l = l.stage
