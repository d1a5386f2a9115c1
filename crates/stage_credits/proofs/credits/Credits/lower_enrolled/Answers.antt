use Rattle.std.proofs.Common.{◌<◌, arith}
use Rattle.stage_credits.specs.Lists.{times}
use Rattle.stage_credits.proofs.Own.{IsOfWorker-stepped, IsOfWorker-retire, enrolled_as}
use Rattle.stage_credits.proofs.Ties.{tied, of_fields}
use Rattle.stage_credits.proofs.StageSteps.{retire_allowed}
use Rattle.stage_credits.proofs.credits.Credits.lower_enrolled.Goals as goal

pub fetch_sub-requires : goal.fetch_sub-requires
fetch_sub-requires c =
    let k = c.self.inside in
    let s = c.seat.inside in
    let t = tied k s c.args.self.now c.args.seat.now c.self.view_is c.seat.view_is c.self.invariant c.seat.invariant c.requires.seat in
    let words = t.words in
    let machine = t.machine in
    let enrolled = of_fields k s c.args.self.now c.args.seat.now c.self.view_is c.seat.view_is (λ _ s'. 0 < times s'.machine s'.view.enrolled) c.requires.enrolled in
    let ended = of_fields k s c.args.self.now c.args.seat.now c.self.view_is c.seat.view_is (λ _ s'. 0 < times s'.machine s'.view.ended) c.requires.ended in (
      t.table,
      rw c.enrolled-word.ensures (omega arith),
      rw (t.key, c.enrolled-word.ensures)
          (retire_allowed k.setup k.table.shared.table_id.slots s.seat.id s.machine s.seat.me t.one t.machine (enrolled_as s.machine s.closed s.seat.me.0 enrolled c.seat.invariant.1) ended),
    )

pub invariant_of-seat : goal.invariant_of-seat
invariant_of-seat c =
    let s = c.seat.inside in
    IsOfWorker-stepped s.machine s.closed s.closed s.seat.me c.fetch_sub.new.seat.me _ c.seat.invariant c.fetch_sub.ensures.2
    (IsOfWorker-retire s.machine s.closed s.seat.me.0 c.enrolled-word.result c.fetch_sub.result)
