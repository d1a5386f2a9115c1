use Rattle.std.proofs.Common.{sym, ◌∙◌}
use Rattle.dfs_worker.proofs.Steps.{discharge-tried}
use Rattle.dfs_worker.proofs.attempts.discharge.Goals as goal

pub returns : goal.returns
returns g c =
    discharge-tried g.F.Fabric.agrees g.F.Fabric.done g.F.Fabric.excused g.F.Fabric.shape g.F.Fabric.roots (g.X.Expand.tree c.args._x.now) c.args.worker.now c.set_hand.new.self
    c.args.fabric.now c.discharge.new.self c.number-w.result c.in-Emptied.from c.in-Emptied.stage c.requires.fits (sym c.hand.ensures ∙ c.in-Emptied.is) c.number-w.ensures
    c.discharge.ensures c.set_hand.ensures.new
