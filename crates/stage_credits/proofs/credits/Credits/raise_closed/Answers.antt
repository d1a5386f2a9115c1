use Rattle.std.proofs.Common.{◌<◌, ◌+◌, ◌∙◌, arith}
use Rattle.stage_credits.specs.Seats.{HasMarkedAll}
use Rattle.stage_credits.proofs.Own.{IsOfWorker-stepped, IsOfWorker-close_held, IsOfWorker-close_missed}
use Rattle.stage_credits.proofs.Ties.{tied, of_fields}
use Rattle.stage_credits.proofs.StageSteps.{close_allowed}
use Rattle.stage_credits.proofs.credits.Credits.raise_closed.Goals as goal

pub compare_exchange-found-requires : goal.compare_exchange-found-requires
compare_exchange-found-requires c =
    let k = c.self.inside in
    let s = c.seat.inside in
    let t = tied k s c.args.self.now c.args.seat.now c.self.view_is c.seat.view_is c.self.invariant c.seat.invariant c.requires.seat in
    let words = t.words in
    let below = of_fields k s c.args.self.now c.args.seat.now c.self.view_is c.seat.view_is (λ k' s'. s'.view.closed < k'.setup.shape.stages) c.requires.stage in
    let marked = of_fields k s c.args.self.now c.args.seat.now c.self.view_is c.seat.view_is (λ k' s'. HasMarkedAll k'.setup s'.view) c.requires.marked in
    let seen = c.from-seen.ensures ∙ c.seat.invariant.1.closed in (
      t.table,
      rw c.closed-word.ensures.value (omega arith),
      rw (t.key, c.closed-word.ensures.value)
          (close_allowed k.setup k.table.shared.table_id.slots s.seat.id c.from-seen.result s.seat.me t.one seen below marked),
    )

pub invariant_of-seat : goal.invariant_of-seat
invariant_of-seat c =
    let s = c.seat.inside in
    let found = c.compare_exchange-found in
    IsOfWorker-stepped s.machine s.closed (s.closed + 1) s.seat.me found.new.seat.me _ c.seat.invariant found.ensures.2.0
    (IsOfWorker-close_held s.machine s.closed s.seat.me.0 c.closed-word.result c.from-seen.result found.result c.from-seen.ensures c.if-found-seen.true)

pub invariant_of-seat-else-found-seen : goal.invariant_of-seat-else-found-seen
invariant_of-seat-else-found-seen c =
    let s = c.seat.inside in
    let found = c.compare_exchange-found in
    IsOfWorker-stepped s.machine s.closed s.closed s.seat.me found.new.seat.me _ c.seat.invariant found.ensures.2.0
    (IsOfWorker-close_missed s.machine s.closed s.seat.me.0 c.closed-word.result c.from-seen.result found.result c.if-found-seen.false)
