use Rattle.std.proofs.Common.{refl}
use Rattle.dfs_worker.proofs.Starting.{restore-tried, restore-missed}
use Rattle.dfs_worker.proofs.Stacks.{taken-room}
use Rattle.dfs_worker.proofs.starts.restore.Goals as goal

pub returns-in-Ok : goal.returns-in-Ok
returns-in-Ok g c =
    restore-tried g.F.Fabric.agrees g.F.Fabric.done g.F.Fabric.excused g.F.Fabric.shape g.F.Fabric.roots (g.X.Expand.tree c.args._x.now) c.args.worker.now c.take_frame.new.self
    c.set_hand.new.self c.args.fabric.now c.restore.new.self c.number-w.result
    c.in-Some.frame c.in-Items.message c.in-Items.next c.in-Items.over c.clear.new.self c.requires.fits c.requires.enabled c.number-w.ensures
    c.in-Some.ensures.some.0 c.in-Some.ensures.some.1 c.in-Items.is c.clear.ensures c.in-Ok.ensures c.set_hand.ensures.new

pub returns-in-Err : goal.returns-in-Err
returns-in-Err g c =
    restore-missed g.F.Fabric.agrees g.F.Fabric.done g.F.Fabric.excused g.F.Fabric.shape g.F.Fabric.roots (g.X.Expand.tree c.args._x.now) c.args.worker.now c.take_frame.new.self
    c.put_frame.new.self c.args.fabric.now c.restore.new.self c.number-w.result
    c.in-Some.frame _ c.in-Items.message c.in-Items.next c.in-Items.over c.clear.new.self c.in-Err.items c.requires.fits c.requires.enabled c.number-w.ensures
    c.in-Some.ensures.some.0 c.in-Some.ensures.some.1 c.in-Items.is c.clear.ensures c.in-Err.ensures refl c.put_frame.ensures

pub put_frame-requires : goal.put_frame-requires
put_frame-requires g c =
    taken-room c.args.worker.now c.take_frame.new.self c.in-Some.frame c.requires.fits.worker c.in-Some.ensures.some.0 c.in-Some.ensures.some.1
