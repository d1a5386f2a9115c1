use Rattle.std.proofs.Common.{subst, sym}
use Rattle.fabric.specs.Account.{ToPost, Nothing}
use Rattle.fabric.specs.Fabric.{Ready}
use Rattle.dfs_worker.specs.Turn.{Fits}
use Rattle.dfs_worker.proofs.Steps.{posted-fits}
use Rattle.dfs_worker.proofs.Asks.{may-post}
use Rattle.dfs_worker.proofs.Facts.{post-facts}
use Rattle.dfs_worker.proofs.Holdings.{may-call}
use Rattle.dfs_worker.proofs.attempts.post_open.Goals as goal

pub post-requires : goal.post-requires
post-requires g c =
    let h = c.requires.fits in
    let at = post-facts c.args.worker.now c.args.stage c.args.to c.requires.enabled in
    rw c.number-w.ensures
    (may-call g.F.Fabric.agrees g.F.Fabric.shape g.F.Fabric.roots (g.X.Expand.tree c.args._x.now) c.args.worker.now c.args.fabric.now (ToPost c.args.stage c.args.to) h
    (may-post c.args.worker.now h.holding c.args.stage c.args.to at.0 h.worker h.holds at.1.1))

pub returns-clause-fits : goal.returns-clause-fits
returns-clause-fits g c =
    subst (λ v. Fits g.F.Fabric.agrees g.F.Fabric.shape g.F.Fabric.roots (g.X.Expand.tree c.args._x.now) v c.post.new.self) (sym c.post-2.ensures)
    (posted-fits g.F.Fabric.agrees g.F.Fabric.done g.F.Fabric.shape g.F.Fabric.roots (g.X.Expand.tree c.args._x.now) c.args.worker.now c.args.fabric.now c.post.new.self c.args.stage
    c.args.to c.requires.fits c.requires.enabled
    (subst (λ n. Ready g.F.Fabric.agrees g.F.Fabric.done g.F.Fabric.shape g.F.Fabric.roots c.args.fabric.now n (ToPost c.args.stage c.args.to) Nothing c.post.new.self) c.number-w.ensures
    c.post.ensures))
