use Rattle.std.proofs.Common.{refl}
use Rattle.dfs_worker.specs.declared.event.Event.TheVariants as event
use Rattle.fabric.specs.Account.{ToFetch}
use Rattle.dfs_worker.proofs.Steps.{fetch-tried, missed-tried}
use Rattle.dfs_worker.proofs.attempts.fetch.Goals as goal

pub returns-in-Some : goal.returns-in-Some
returns-in-Some g c =
    fetch-tried g.F.Fabric.agrees g.F.Fabric.done g.F.Fabric.excused g.F.Fabric.shape g.F.Fabric.roots (g.X.Expand.tree c.args._x.now) c.args.worker.now c.fetch-in-Some.new.self
    c.args.fabric.now c.fetch.new.self c.number-w.result _ c.requires.fits (rw c.requires.charged refl) c.number-w.ensures
    c.in-Some.ensures c.fetch-in-Some.ensures

pub returns-in-None : goal.returns-in-None
returns-in-None g c =
    missed-tried g.F.Fabric.agrees g.F.Fabric.done g.F.Fabric.excused g.F.Fabric.shape g.F.Fabric.roots (g.X.Expand.tree c.args._x.now) c.args.worker.now c.args.worker.now c.args.fabric.now
    c.fetch.new.self c.number-w.result (event.Fetch c.args.worker.now.number) ToFetch c.requires.fits (rw c.requires.charged refl) c.number-w.ensures refl refl
    c.in-None.ensures refl
