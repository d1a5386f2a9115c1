use Rattle.std.proofs.Common.{◌<◌, arith}
use Rattle.stage_credits.specs.declared.view.Way.TheVariants.{Load}
use Rattle.stage_credits.specs.Layout.{word_count}
use Rattle.stage_credits.proofs.Own.{IsOfWorker-stepped, IsOfWorker-with_note}
use Rattle.stage_credits.proofs.Ties.{tied, of_fields}
use Rattle.stage_credits.proofs.UnitSteps.{look_allowed}
use Rattle.stage_credits.proofs.credits.Credits.look.Goals as goal

pub load-requires : goal.load-requires
load-requires c =
    let k = c.self.inside in
    let s = c.seat.inside in
    let t = tied k s c.args.self.now c.args.seat.now c.self.view_is c.seat.view_is c.self.invariant c.seat.invariant c.requires.seat in
    let word = of_fields k s c.args.self.now c.args.seat.now c.self.view_is c.seat.view_is (λ k' _. c.args.word < word_count k'.setup) c.requires.word in
    let words = t.words in
    (t.table, omega arith, rw t.key (look_allowed k.setup k.table.shared.table_id.slots s.seat.id c.args.word s.seat.me t.one t.setup))

pub invariant_of-seat : goal.invariant_of-seat
invariant_of-seat c =
    let s = c.seat.inside in
    IsOfWorker-stepped s.machine s.closed s.closed s.seat.me c.load.new.seat.me _ c.seat.invariant c.load.ensures.2.0
    (IsOfWorker-with_note s.machine s.closed s.seat.me.0 Load c.args.word c.load.result)
