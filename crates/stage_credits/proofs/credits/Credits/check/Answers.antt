use Rattle.std.proofs.Common.{arith}
use Rattle.stage_credits.specs.Rule.{IsWordOf}
use Rattle.stage_credits.proofs.Own.{IsOfWorker-stepped, IsOfWorker-check}
use Rattle.stage_credits.proofs.Ties.{tied, of_fields}
use Rattle.stage_credits.proofs.StageSteps.{check_allowed, IsWordOf-below}
use Rattle.stage_credits.proofs.credits.Credits.check.Goals as goal

pub load-requires : goal.load-requires
load-requires c =
    let k = c.self.inside in
    let s = c.seat.inside in
    let t = tied k s c.args.self.now c.args.seat.now c.self.view_is c.seat.view_is c.self.invariant c.seat.invariant c.requires.seat in
    let words = t.words in
    let word = of_fields k s c.args.self.now c.args.seat.now c.self.view_is c.seat.view_is (λ k' s'. IsWordOf k'.setup s'.view.closed c.args.word) c.requires.word in
    let below = IsWordOf-below k.setup s.seat.me.0.closed c.args.word word in
    (t.table, omega arith, rw t.key (check_allowed k.setup k.table.shared.table_id.slots s.seat.id c.args.word s.seat.me t.one word))

pub invariant_of-seat : goal.invariant_of-seat
invariant_of-seat c =
    let k = c.self.inside in
    let s = c.seat.inside in
    IsOfWorker-stepped s.machine s.closed s.closed s.seat.me c.load.new.seat.me _ c.seat.invariant c.load.ensures.2
    (IsOfWorker-check s.machine s.closed s.seat.me.0 c.args.word c.load.result)
