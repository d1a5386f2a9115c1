use Rattle.std.proofs.Common.{sym}
use Rattle.dfs_worker.proofs.Steps.{push-tried, push-missed}
use Rattle.dfs_worker.proofs.attempts.push.Goals as goal

pub returns-in-Ok : goal.returns-in-Ok
returns-in-Ok g c =
    push-tried g.F.Fabric.agrees g.F.Fabric.done g.F.Fabric.excused g.F.Fabric.shape g.F.Fabric.roots (g.X.Expand.tree c.args._x.now) c.args.worker.now c.set_hand.new.self c.args.fabric.now
    c.push.new.self c.number-w.result c.in-Posted.message c.requires.fits (sym c.in-Posted.ensures.old) c.number-w.ensures
    c.in-Ok.ensures c.set_hand.ensures.new

pub returns-in-Err : goal.returns-in-Err
returns-in-Err g c =
    push-missed g.F.Fabric.agrees g.F.Fabric.done g.F.Fabric.excused g.F.Fabric.shape g.F.Fabric.roots (g.X.Expand.tree c.args._x.now) c.args.worker.now c.set_hand.new.self
    c.set_hand-in-Err.new.self c.args.fabric.now c.push.new.self c.number-w.result c.in-Posted.message c.in-Err.message c.requires.fits
    (sym c.in-Posted.ensures.old) c.number-w.ensures c.set_hand.ensures.new c.in-Err.ensures c.set_hand-in-Err.ensures.new
