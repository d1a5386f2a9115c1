use Rattle.std.proofs.Common.{arith}
use Rattle.stage_credits.proofs.Own.{IsOfWorker-stepped, IsOfWorker-sight_up, IsOfWorker-sight_same}
use Rattle.stage_credits.proofs.Ties.{tied}
use Rattle.stage_credits.proofs.StageSteps.{see_allowed}
use Rattle.stage_credits.proofs.credits.Credits.look_at_closed.Goals as goal

pub load-found-requires : goal.load-found-requires
load-found-requires c =
    let k = c.self.inside in
    let s = c.seat.inside in
    let t = tied k s c.args.self.now c.args.seat.now c.self.view_is c.seat.view_is c.self.invariant c.seat.invariant c.requires.seat in
    let words = t.words in
    (t.table, rw c.closed-word.ensures.value (omega arith), rw (t.key, c.closed-word.ensures.value) (see_allowed k.setup k.table.shared.table_id.slots s.seat.id s.seat.me t.one t.setup))

pub invariant_of-seat : goal.invariant_of-seat
invariant_of-seat c =
    let s = c.seat.inside in
    IsOfWorker-stepped s.machine s.closed c.load-found.result s.seat.me c.load-found.new.seat.me _ c.seat.invariant c.load-found.ensures.2.0
    (IsOfWorker-sight_up s.machine s.closed s.seat.me.0 c.closed-word.result c.load-found.result c.if-seat-found.true)

pub invariant_of-seat-else-seat-found : goal.invariant_of-seat-else-seat-found
invariant_of-seat-else-seat-found c =
    let s = c.seat.inside in
    IsOfWorker-stepped s.machine s.closed s.closed s.seat.me c.load-found.new.seat.me _ c.seat.invariant c.load-found.ensures.2.0
    (IsOfWorker-sight_same s.machine s.closed s.seat.me.0 c.closed-word.result c.load-found.result c.if-seat-found.false)
