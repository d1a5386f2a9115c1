use Rattle.dfs_worker.proofs.Steps.{no-memory}
use Rattle.dfs_worker.proofs.Asks.{advance-tried}
use Rattle.dfs_worker.proofs.attempts.advance.Goals as goal

pub returns-in-Ok : goal.returns-in-Ok
returns-in-Ok g c =
    advance-tried g.F.Fabric.agrees g.F.Fabric.done g.F.Fabric.excused g.F.Fabric.shape g.F.Fabric.roots (g.X.Expand.tree c.args.x.now) c.args.worker.now c.advance.new.self
    c.args.fabric.now c.number-w.result c.requires.fits c.requires.enabled c.number-w.ensures c.in-Ok.ensures.ok

pub returns-in-Err : goal.returns-in-Err
returns-in-Err g c =
    no-memory g.F.Fabric.agrees g.F.Fabric.done g.F.Fabric.excused g.F.Fabric.shape g.F.Fabric.roots (g.X.Expand.tree c.args.x.now) c.args.worker.now c.advance.new.self c.args.fabric.now
    c.requires.fits c.requires.enabled c.in-Err.ensures.memory c.in-Err.ensures.err
