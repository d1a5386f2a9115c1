use Rattle.std.proofs.Common.{◌≡◌, arith}
use Rattle.stage_credits.specs.Views.{machine_at}
use Rattle.stage_credits.proofs.Own.{IsOfWorker-stepped, IsOfWorker-seek}
use Rattle.stage_credits.proofs.Ties.{tied}
use Rattle.stage_credits.proofs.StageSteps.{seek_allowed, machine_at-cursor_of}
use Rattle.stage_credits.proofs.credits.Credits.look_at_cursor.Goals as goal

pub load-requires : goal.load-requires
load-requires c =
    let k = c.self.inside in
    let s = c.seat.inside in
    let t = tied k s c.args.self.now c.args.seat.now c.self.view_is c.seat.view_is c.self.invariant c.seat.invariant c.requires.seat in
    let words = t.words in
    let machine = t.machine in
    (t.table, rw c.cursor-word.ensures (omega arith), rw (t.key, c.cursor-word.ensures) (seek_allowed k.setup k.table.shared.table_id.slots s.seat.id s.machine s.seat.me t.one t.setup t.machine))

pub invariant_of-seat : goal.invariant_of-seat
invariant_of-seat c =
    let k = c.self.inside in
    let s = c.seat.inside in
    let t = tied k s c.args.self.now c.args.seat.now c.self.view_is c.seat.view_is c.self.invariant c.seat.invariant c.requires.seat in
    let which : machine_at s.seat.me.0 c.cursor-word.result ≡ s.machine = rw c.cursor-word.ensures (machine_at-cursor_of k.setup s.seat.me.0 s.machine t.setup) in
    IsOfWorker-stepped s.machine s.closed s.closed s.seat.me c.load.new.seat.me _ c.seat.invariant c.load.ensures.2.0
    (IsOfWorker-seek s.machine s.closed s.seat.me.0 c.cursor-word.result c.load.result which)
