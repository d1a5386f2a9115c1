use Rattle.std.proofs.Common.{sym}
use Rattle.dfs_worker.proofs.Steps.{descend-tried}
use Rattle.dfs_worker.proofs.Asks.{guard-none}
use Rattle.dfs_worker.proofs.attempts.descend.Goals as goal

pub returns-clause-tried : goal.returns-clause-tried
returns-clause-tried g c =
    descend-tried g.F.Fabric.agrees g.F.Fabric.done g.F.Fabric.excused g.F.Fabric.shape g.F.Fabric.roots (g.X.Expand.tree c.args._x.now) c.args.worker.now c.descend.new.self
    c.args.fabric.now c.number-w.result c.requires.fits (guard-none c.guard.result _ c.guard.ensures (sym c.if-is_some.ensures)) c.number-w.ensures c.descend.ensures
