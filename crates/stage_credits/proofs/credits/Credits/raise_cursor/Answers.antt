use Rattle.std.proofs.Common.{◌≡◌, ◌≤◌, arith}
use Rattle.stage_credits.specs.Layout.{roots_of}
use Rattle.stage_credits.specs.Views.{machine_at, after_claim}
use Rattle.stage_credits.proofs.Own.{IsOfWorker-stepped, IsOfWorker-exchange, IsOfWorker-claim}
use Rattle.stage_credits.proofs.Ties.{tied, of_fields}
use Rattle.stage_credits.proofs.StageSteps.{claim_allowed, machine_at-cursor_of}
use Rattle.stage_credits.proofs.credits.Credits.raise_cursor.Goals as goal

pub compare_exchange-requires : goal.compare_exchange-requires
compare_exchange-requires c =
    let k = c.self.inside in
    let s = c.seat.inside in
    let t = tied k s c.args.self.now c.args.seat.now c.self.view_is c.seat.view_is c.self.invariant c.seat.invariant c.requires.seat in
    let words = t.words in
    let machine = t.machine in
    let end = of_fields k s c.args.self.now c.args.seat.now c.self.view_is c.seat.view_is (λ k' s'. c.args.end ≤ roots_of k'.setup s'.machine) c.requires.end in (
      t.table,
      rw c.cursor-word.ensures (omega arith),
      rw (t.key, c.cursor-word.ensures)
          (claim_allowed k.setup k.table.shared.table_id.slots s.seat.id s.machine c.args.first c.args.end s.seat.me t.one t.setup t.machine c.requires.order end),
    )

pub invariant_of-seat : goal.invariant_of-seat
invariant_of-seat c =
    let k = c.self.inside in
    let s = c.seat.inside in
    let t = tied k s c.args.self.now c.args.seat.now c.self.view_is c.seat.view_is c.self.invariant c.seat.invariant c.requires.seat in
    let which : machine_at s.seat.me.0 c.cursor-word.result ≡ s.machine = rw c.cursor-word.ensures (machine_at-cursor_of k.setup s.seat.me.0 s.machine t.setup) in
    IsOfWorker-stepped s.machine s.closed s.closed s.seat.me c.compare_exchange.new.seat.me _ c.seat.invariant c.compare_exchange.ensures.2
    (IsOfWorker-exchange s.machine s.closed s.seat.me.0
    (after_claim (machine_at s.seat.me.0 c.cursor-word.result) c.args.end) c.cursor-word.result c.args.first c.compare_exchange.result
    (IsOfWorker-claim s.machine s.closed s.seat.me.0 (machine_at s.seat.me.0 c.cursor-word.result) c.args.end c.cursor-word.result c.compare_exchange.result which))
