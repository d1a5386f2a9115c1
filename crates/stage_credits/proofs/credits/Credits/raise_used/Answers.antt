use Rattle.std.proofs.Common.{◌≡◌, ◌<◌, ◌≤◌, arith}
use Rattle.stage_credits.specs.Layout.{stage_start, limit_at, sender_of, IsUnit}
use Rattle.stage_credits.specs.Seats.{MayCharge}
use Rattle.stage_credits.specs.Views.{after_charge}
use Rattle.stage_credits.proofs.Own.{IsOfWorker-stepped, IsOfWorker-exchange, IsOfWorker-charge}
use Rattle.stage_credits.proofs.Ties.{tied, of_fields}
use Rattle.stage_credits.proofs.UnitSteps.{charge_allowed}
use Rattle.stage_credits.proofs.credits.Credits.raise_used.Goals as goal

pub overflow_add-seen : goal.overflow_add-seen
overflow_add-seen c = let room = c.requires.room.1 in omega arith

pub compare_exchange-requires : goal.compare_exchange-requires
compare_exchange-requires c =
    let k = c.self.inside in
    let s = c.seat.inside in
    let t = tied k s c.args.self.now c.args.seat.now c.self.view_is c.seat.view_is c.self.invariant c.seat.invariant c.requires.seat in
    let words = t.words in
    let unit = of_fields k s c.args.self.now c.args.seat.now c.self.view_is c.seat.view_is (λ k' _. IsUnit k'.setup c.args.unit) c.requires.unit.0 in
    let below = unit.below in
    let start = of_fields k s c.args.self.now c.args.seat.now c.self.view_is c.seat.view_is (λ k' _. stage_start k'.setup c.args.stage ≤ c.args.unit) c.requires.stage in
    let may = of_fields k s c.args.self.now c.args.seat.now c.self.view_is c.seat.view_is (λ k' s'. MayCharge k'.setup s'.machine c.args.stage s'.view) c.requires.may in
    let room = of_fields k s c.args.self.now c.args.seat.now c.self.view_is c.seat.view_is (λ k' _. c.args.seen < limit_at k'.setup c.args.unit) c.requires.room.0 in
    (t.table, omega arith, rw t.key (charge_allowed k.setup k.table.shared.table_id.slots s.seat.id s.machine c.args.stage c.args.unit c.args.seen s.seat.me t.one t.machine start unit may room))

pub invariant_of-seat : goal.invariant_of-seat
invariant_of-seat c =
    let k = c.self.inside in
    let s = c.seat.inside in
    let t = tied k s c.args.self.now c.args.seat.now c.self.view_is c.seat.view_is c.self.invariant c.seat.invariant c.requires.seat in
    let sender' = of_fields k s c.args.self.now c.args.seat.now c.self.view_is c.seat.view_is (λ k' s'. sender_of k'.setup c.args.unit ≡ s'.machine) c.requires.unit.1 in
    let sender : sender_of s.seat.me.0.setup c.args.unit ≡ s.machine = rw t.setup sender' in
    IsOfWorker-stepped s.machine s.closed s.closed s.seat.me c.compare_exchange.new.seat.me _ c.seat.invariant c.compare_exchange.ensures.2
    (IsOfWorker-exchange s.machine s.closed s.seat.me.0 after_charge c.args.unit c.args.seen c.compare_exchange.result
    (IsOfWorker-charge s.machine s.closed s.seat.me.0 c.args.unit c.compare_exchange.result sender))
