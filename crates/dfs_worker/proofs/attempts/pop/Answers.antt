use Rattle.std.proofs.Common.{refl, sym}
use Rattle.dfs_worker.specs.declared.event.Event.TheVariants as event
use Rattle.fabric.specs.Account.{ToPop}
use Rattle.dfs_worker.proofs.Steps.{pop-tried, missed-tried}
use Rattle.dfs_worker.proofs.Asks.{guard-none}
use Rattle.dfs_worker.proofs.attempts.pop.Goals as goal

pub returns-in-Some-clause-tried : goal.returns-in-Some-clause-tried
returns-in-Some-clause-tried g c =
    pop-tried g.F.Fabric.agrees g.F.Fabric.done g.F.Fabric.excused g.F.Fabric.shape g.F.Fabric.roots (g.X.Expand.tree c.args._x.now) c.args.worker.now c.pop-in-Some.new.self
    c.args.fabric.now c.pop.new.self c.number-w.result c.args.stage c.in-Some.message c.requires.fits (guard-none c.guard.result _ c.guard.ensures (sym c.if-is_some.ensures))
    c.requires.some_stage c.requires.stage_in c.number-w.ensures
    c.in-Some.ensures c.pop-in-Some.ensures

pub returns-in-None-clause-tried : goal.returns-in-None-clause-tried
returns-in-None-clause-tried g c =
    missed-tried g.F.Fabric.agrees g.F.Fabric.done g.F.Fabric.excused g.F.Fabric.shape g.F.Fabric.roots (g.X.Expand.tree c.args._x.now) c.args.worker.now c.args.worker.now c.args.fabric.now
    c.pop.new.self c.number-w.result (event.Pop c.args.worker.now.number c.args.stage) (ToPop c.args.stage) c.requires.fits
    (guard-none c.guard.result _ c.guard.ensures (sym c.if-is_some.ensures)) c.number-w.ensures refl refl c.in-None.ensures refl
