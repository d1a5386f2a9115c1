use Rattle.std.proofs.Common.{◌≡◌, ◌+◌, ◌-◌, arith}
use Rattle.stage_credits.specs.Layout.{units, target_of, IsUnit}
use Rattle.stage_credits.specs.Views.{after_pick}
use Rattle.stage_credits.proofs.Own.{IsOfWorker-stepped, IsOfWorker-exchange, IsOfWorker-pick}
use Rattle.stage_credits.proofs.Ties.{tied, of_fields}
use Rattle.stage_credits.proofs.UnitSteps.{pick_allowed}
use Rattle.stage_credits.proofs.credits.Credits.lower_flying.Goals as goal

pub compare_exchange-requires : goal.compare_exchange-requires
compare_exchange-requires c =
    let k = c.self.inside in
    let s = c.seat.inside in
    let t = tied k s c.args.self.now c.args.seat.now c.self.view_is c.seat.view_is c.self.invariant c.seat.invariant c.requires.seat in
    let words = t.words in
    let unit = of_fields k s c.args.self.now c.args.seat.now c.self.view_is c.seat.view_is (λ k' _. IsUnit k'.setup c.args.unit) c.requires.unit.0 in
    let below = unit.below in
    (t.table, omega arith, rw (t.key, c.units.ensures.value) (pick_allowed k.setup k.table.shared.table_id.slots s.seat.id c.args.unit c.args.seen s.seat.me t.one t.setup unit c.requires.some_fly))

pub invariant_of-seat : goal.invariant_of-seat
invariant_of-seat c =
    let k = c.self.inside in
    let s = c.seat.inside in
    let t = tied k s c.args.self.now c.args.seat.now c.self.view_is c.seat.view_is c.self.invariant c.seat.invariant c.requires.seat in
    let word = c.units.result + c.args.unit in
    let target' = of_fields k s c.args.self.now c.args.seat.now c.self.view_is c.seat.view_is (λ _ s'. target_of c.args.unit ≡ s'.machine) c.requires.unit.1 in
    let target : target_of (word - units s.seat.me.0.setup) ≡ s.machine = rw (t.setup, c.units.ensures.value) (omega arith) in
    IsOfWorker-stepped s.machine s.closed s.closed s.seat.me c.compare_exchange.new.seat.me _ c.seat.invariant c.compare_exchange.ensures.2
    (IsOfWorker-exchange s.machine s.closed s.seat.me.0 after_pick word c.args.seen c.compare_exchange.result (IsOfWorker-pick s.machine s.closed s.seat.me.0 word c.compare_exchange.result target))
