use Rattle.std.proofs.Common.{sym}
use Rattle.dfs_worker.proofs.Starting.{claim-tried, may-retire, retire-tried, start-missed}
use Rattle.dfs_worker.proofs.Asks.{guard-none}
use Rattle.dfs_worker.proofs.starts.start.Goals as goal

pub returns-in-Chunk-clause-tried : goal.returns-in-Chunk-clause-tried
returns-in-Chunk-clause-tried g c =
    claim-tried g.F.Fabric.agrees g.F.Fabric.done g.F.Fabric.excused g.F.Fabric.shape g.F.Fabric.roots (g.X.Expand.tree c.args.x.now) c.args.worker.now c.claim-in-Chunk.new.self
    c.args.fabric.now c.claim.new.self c.number-w.result c.in-Chunk.first c.in-Chunk.end c.requires.fits (guard-none c.guard.result _ c.guard.ensures (sym c.if-is_some.ensures)) c.number-w.ensures
    c.in-Chunk.ensures c.claim-in-Chunk.ensures

pub retire-requires : goal.retire-requires
retire-requires g c =
    may-retire g.F.Fabric.agrees g.F.Fabric.done g.F.Fabric.excused g.F.Fabric.shape g.F.Fabric.roots (g.X.Expand.tree c.args.x.now) c.args.worker.now c.args.fabric.now c.claim.new.self
    c.number-w.result c.requires.fits (guard-none c.guard.result _ c.guard.ensures (sym c.if-is_some.ensures)) c.number-w.ensures c.in-Exhausted.ensures

pub returns-in-Exhausted-clause-tried : goal.returns-in-Exhausted-clause-tried
returns-in-Exhausted-clause-tried g c =
    retire-tried g.F.Fabric.agrees g.F.Fabric.done g.F.Fabric.excused g.F.Fabric.shape g.F.Fabric.roots (g.X.Expand.tree c.args.x.now) c.args.worker.now c.leave.new.self c.args.fabric.now
    c.claim.new.self c.retire.new.self c.number-w.result c.requires.fits (guard-none c.guard.result _ c.guard.ensures (sym c.if-is_some.ensures)) c.number-w.ensures
    c.in-Exhausted.ensures c.retire.ensures c.leave.ensures

pub returns-in-Moved-clause-tried : goal.returns-in-Moved-clause-tried
returns-in-Moved-clause-tried g c =
    start-missed g.F.Fabric.agrees g.F.Fabric.done g.F.Fabric.excused g.F.Fabric.shape g.F.Fabric.roots (g.X.Expand.tree c.args.x.now) c.args.worker.now c.args.fabric.now c.claim.new.self
    c.number-w.result c.requires.fits (guard-none c.guard.result _ c.guard.ensures (sym c.if-is_some.ensures)) c.number-w.ensures c.in-Moved.ensures
