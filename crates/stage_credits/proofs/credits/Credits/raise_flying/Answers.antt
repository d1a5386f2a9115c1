use Rattle.std.proofs.Common.{◌<◌, arith}
use Rattle.stage_credits.specs.Layout.{units}
use Rattle.stage_credits.specs.Lists.{times}
use Rattle.stage_credits.proofs.Own.{IsOfWorker-stepped, IsOfWorker-post}
use Rattle.stage_credits.proofs.Ties.{tied, of_fields}
use Rattle.stage_credits.proofs.UnitSteps.{post_allowed}
use Rattle.stage_credits.proofs.credits.Credits.raise_flying.Goals as goal

pub fetch_add-requires : goal.fetch_add-requires
fetch_add-requires c =
    let k = c.self.inside in
    let s = c.seat.inside in
    let t = tied k s c.args.self.now c.args.seat.now c.self.view_is c.seat.view_is c.self.invariant c.seat.invariant c.requires.seat in
    let words = t.words in
    let below = of_fields k s c.args.self.now c.args.seat.now c.self.view_is c.seat.view_is (λ k' _. c.args.unit < units k'.setup) c.requires.unit in
    let held = of_fields k s c.args.self.now c.args.seat.now c.self.view_is c.seat.view_is (λ _ s'. 0 < times c.args.unit s'.view.open_units) c.requires.held in
    (t.table, omega arith, rw (t.key, c.units.ensures.value) (post_allowed k.setup k.table.shared.table_id.slots s.seat.id c.args.unit s.seat.me t.one t.setup below held))

pub invariant_of-seat : goal.invariant_of-seat
invariant_of-seat c =
    let k = c.self.inside in
    let s = c.seat.inside in
    IsOfWorker-stepped s.machine s.closed s.closed s.seat.me c.fetch_add.new.seat.me _ c.seat.invariant c.fetch_add.ensures.2
    (IsOfWorker-post s.machine s.closed s.seat.me.0 _ c.fetch_add.result)
