use Rattle.dfs_worker.proofs.Sweeps.{other-tried}
use Rattle.dfs_worker.proofs.tries.post_other.Goals as goal

pub returns-in-Some-clause-tried : goal.returns-in-Some-clause-tried
returns-in-Some-clause-tried g c =
    other-tried g.F.Fabric.agrees g.F.Fabric.done g.F.Fabric.excused g.F.Fabric.shape g.F.Fabric.roots (g.X.Expand.tree c.args.x.now) c.args.worker.now c.post_open.new.worker
    c.args.fabric.now c.post_open.new.fabric c.in-Some.stage c.in-Some.to c.post_open.result
    c.in-Some.ensures c.post_open.ensures.event c.post_open.ensures.own c.post_open.ensures.shared c.post_open.ensures.fits
