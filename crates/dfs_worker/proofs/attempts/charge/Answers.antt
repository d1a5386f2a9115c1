use Rattle.std.proofs.Common.{refl, sym, ap}
use Rattle.dfs_worker.specs.declared.event.Event.TheVariants as event
use Rattle.fabric.specs.Account.{ToCharge}
use Rattle.dfs_worker.proofs.Steps.{charge-tried, missed-tried, charge-missed}
use Rattle.dfs_worker.proofs.Asks.{may-charge, guard-none}
use Rattle.dfs_worker.proofs.Holdings.{may-call}
use Rattle.dfs_worker.specs.Turn.{charge_call}
use Rattle.dfs_worker.proofs.attempts.charge.Goals as goal

pub charge-requires : goal.charge-requires
charge-requires g c =
    let h = c.requires.fits in
    rw c.number-w.ensures
    (may-call g.F.Fabric.agrees g.F.Fabric.shape g.F.Fabric.roots (g.X.Expand.tree c.args._x.now) c.args.worker.now c.args.fabric.now (ToCharge c.in-Some.stage c.in-Some.to) h
    (may-charge c.args.worker.now h.holding c.in-Some.stage c.in-Some.to h.worker h.holds (guard-none c.guard.result _ c.guard.ensures (sym c.if-is_some.ensures)) (sym c.in-Some.ensures)))

pub returns-in-Charged-clause-tried : goal.returns-in-Charged-clause-tried
returns-in-Charged-clause-tried g c =
    charge-tried g.F.Fabric.agrees g.F.Fabric.done g.F.Fabric.excused g.F.Fabric.shape g.F.Fabric.roots (g.X.Expand.tree c.args._x.now) c.args.worker.now c.charge-in-Charged.new.self
    c.args.fabric.now c.charge.new.self c.number-w.result c.in-Some.stage c.in-Some.to c.requires.fits (guard-none c.guard.result _ c.guard.ensures (sym c.if-is_some.ensures))
    c.number-w.ensures (sym c.in-Some.ensures)
    c.in-Charged.ensures c.charge-in-Charged.ensures

pub returns-in_default-charge : goal.returns-in_default-charge
returns-in_default-charge g c = record {
  tried =
      missed-tried g.F.Fabric.agrees g.F.Fabric.done g.F.Fabric.excused g.F.Fabric.shape g.F.Fabric.roots (g.X.Expand.tree c.args._x.now) c.args.worker.now c.args.worker.now
      c.args.fabric.now c.charge.new.self c.number-w.result (event.Charge c.args.worker.now.number) (ToCharge c.in-Some.stage c.in-Some.to) c.requires.fits
      (guard-none c.guard.result _ c.guard.ensures (sym c.if-is_some.ensures)) c.number-w.ensures (ap charge_call (sym c.in-Some.ensures)) refl
      (charge-missed _ _ c.charge.result c.charge.ensures c.in_default-charge.not-Charged) refl;
  kept = λ _. refl;
}
