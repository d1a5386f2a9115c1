use Rattle.std.proofs.Common.{refl, sym, ap, ◌∙◌}
use Rattle.dfs_worker.specs.declared.event.Event.TheVariants as event
use Rattle.fabric.specs.Account.{ToPick}
use Rattle.dfs_worker.proofs.Steps.{pick-tried, missed-tried, pick-missed}
use Rattle.dfs_worker.specs.Turn.{pick_call}
use Rattle.dfs_worker.proofs.attempts.pick.Goals as goal

pub returns-in-Picked : goal.returns-in-Picked
returns-in-Picked g c =
    pick-tried g.F.Fabric.agrees g.F.Fabric.done g.F.Fabric.excused g.F.Fabric.shape g.F.Fabric.roots (g.X.Expand.tree c.args._x.now) c.args.worker.now c.pick-in-Picked.new.self
    c.args.fabric.now c.pick.new.self c.number-w.result c.in-Popped.message c.requires.fits (sym c.hand.ensures ∙ c.in-Popped.is) c.number-w.ensures
    c.in-Picked.ensures c.pick-in-Picked.ensures

pub returns-in_default-pick : goal.returns-in_default-pick
returns-in_default-pick g c =
    missed-tried g.F.Fabric.agrees g.F.Fabric.done g.F.Fabric.excused g.F.Fabric.shape g.F.Fabric.roots (g.X.Expand.tree c.args._x.now) c.args.worker.now c.args.worker.now c.args.fabric.now
    c.pick.new.self c.number-w.result (event.Pick c.args.worker.now.number) (ToPick c.in-Popped.message.from c.in-Popped.message.stage) c.requires.fits
    (rw c.requires.popped refl) c.number-w.ensures (ap pick_call (sym c.hand.ensures ∙ c.in-Popped.is)) refl
    (pick-missed _ _ c.pick.result c.pick.ensures c.in_default-pick.not-Picked) refl
