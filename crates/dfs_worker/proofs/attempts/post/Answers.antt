use Rattle.std.proofs.Common.{sym}
use Rattle.dfs_worker.proofs.Steps.{post-tried}
use Rattle.dfs_worker.proofs.attempts.post.Goals as goal

pub returns-in-None-clause-tried : goal.returns-in-None-clause-tried
returns-in-None-clause-tried g c =
    post-tried g.F.Fabric.agrees g.F.Fabric.done g.F.Fabric.excused g.F.Fabric.shape g.F.Fabric.roots (g.X.Expand.tree c.args.x.now) c.args.worker.now c.post_open.new.worker
    c.args.fabric.now c.post_open.new.fabric c.args.stage c.args.to c.post_open.result
    (sym c.in-None.ensures) c.post_open.ensures.event c.post_open.ensures.own c.post_open.ensures.shared c.post_open.ensures.fits
