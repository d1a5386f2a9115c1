use Rattle.std.proofs.Common.{◌<◌, arith}
use Rattle.stage_credits.specs.Layout.{units}
use Rattle.stage_credits.specs.Lists.{times}
use Rattle.stage_credits.proofs.Own.{IsOfWorker-stepped, IsOfWorker-discharge}
use Rattle.stage_credits.proofs.Ties.{tied, of_fields}
use Rattle.stage_credits.proofs.UnitSteps.{discharge_allowed}
use Rattle.stage_credits.proofs.credits.Credits.lower_used.Goals as goal

pub fetch_sub-requires : goal.fetch_sub-requires
fetch_sub-requires c =
    let k = c.self.inside in
    let s = c.seat.inside in
    let t = tied k s c.args.self.now c.args.seat.now c.self.view_is c.seat.view_is c.self.invariant c.seat.invariant c.requires.seat in
    let words = t.words in
    let below = of_fields k s c.args.self.now c.args.seat.now c.self.view_is c.seat.view_is (λ k' _. c.args.unit < units k'.setup) c.requires.unit in
    let held = of_fields k s c.args.self.now c.args.seat.now c.self.view_is c.seat.view_is (λ _ s'. 0 < times c.args.unit s'.view.work_units) c.requires.held in
    (t.table, omega arith, rw t.key (discharge_allowed k.setup k.table.shared.table_id.slots s.seat.id c.args.unit s.seat.me t.one below held))

pub invariant_of-seat : goal.invariant_of-seat
invariant_of-seat c =
    let k = c.self.inside in
    let s = c.seat.inside in
    IsOfWorker-stepped s.machine s.closed s.closed s.seat.me c.fetch_sub.new.seat.me _ c.seat.invariant c.fetch_sub.ensures.2
    (IsOfWorker-discharge s.machine s.closed s.seat.me.0 c.args.unit c.fetch_sub.result)
