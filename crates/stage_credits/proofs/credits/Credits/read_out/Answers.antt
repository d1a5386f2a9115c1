use Rattle.std.proofs.Common.{◌≡◌, ◌≢◌, ◌≤◌, ℕ, List, ◌+◌, ◌*◌, ◌<◌, length, get_or, sym, ap, subst, arith, ◌∙◌}
use Rattle.std.proofs.lemmas.List.{length-set, get_or-set_other}
use Rattle.std.specs.Slots.{slots_items}
use Rattle.stage_credits.specs.declared.setup.Setup.{Setup}
use Rattle.stage_credits.specs.Layout.{cursor_of, roots_of}
use Rattle.stage_credits.specs.Seats.{Counters}
use Rattle.stage_credits.proofs.Frames.{get_or-put}
use Rattle.stage_credits.proofs.Joining.{found_at, all_chunks}
use Rattle.stage_credits.proofs.credits.Credits.read_out.Goals as goal

pub loop-machine-preserved : goal.loop-machine-preserved
loop-machine-preserved c =
    let words = slots_items c.close_with-closed.result.words in
    let old = c.loop-machine.cursors in
    let at = c.loop-machine.machine in
    let found = c.word.result in
    let room = c.loop-machine.invariant.room in
    let few = c.machines-machine-end.ensures.sound.machines in
    let number = c.machines-machine-end.ensures.number in
    let below = c.loop-machine-test.true in
    let cursor : ℕ → ℕ = cursor_of c.self.inside.setup in
    let here : get_or words (cursor at) 0 ≡ found = ap (λ (i : ℕ). get_or words i 0) (sym c.cursor.ensures) ∙ found_at words c.cursor.result found c.word.ensures in
    let read = c.loop-machine.invariant.read in
    record {
      room = length-set old at found ∙ room;
      read = λ m lt. get_or-put (λ k n. k < at + 1 → n ≡ get_or words (cursor k) 0) old at found m (omega arith) (λ _. sym here) (λ ne b. read m (let apart : m ≢ at = ne in omega arith)) lt;
      past = λ m le. get_or-set_other old at m found 0 (omega arith) ∙ c.loop-machine.invariant.past m (omega arith);
    }

pub returns : goal.returns
returns c =
    let k = c.self.inside in
    let on = k.table.shared in
    let words = slots_items c.close_with-closed.result.words in
    let last = c.close_with-closed.ensures.values.2 in
    let s = last.0 in
    let sound = last.1.0 in
    let same : on.key ≡ c.args.self.setup = c.self.invariant.0 ∙ ap (λ (x : Counters). x.setup) c.self.view_is in
    let v = c.args.whole.me.0 in
    let workers : length v.workers ≡ on.key.shape.machines * on.key.shape.workers = c.requires.1 ∙ ap (λ (p : Setup). p.shape.machines * p.shape.workers) (sym same) in
    let inside : c.args.self.setup ≡ k.setup = sym (ap (λ (x : Counters). x.setup) c.self.view_is) in
    let end : c.machines-machine-end.result ≡ c.args.self.setup.shape.machines = c.machines-machine-end.ensures.number ∙ ap (λ (p : Setup). p.shape.machines) (sym inside) in
    let on_key : (m : ℕ) → m < c.args.self.setup.shape.machines → m < on.key.shape.machines = λ m below. subst (λ (p : Setup). m < p.shape.machines) (sym same) below in
    let test = c.loop-machine-test.false in
    let cursor : (m : ℕ) → m < c.args.self.setup.shape.machines → get_or c.loop-machine.cursors m 0 ≡ get_or s.words (cursor_of on.key m) 0 = λ m below.
    c.loop-machine.invariant.read m (omega (arith, end))
    ∙ (ap (λ (p : Setup). get_or words (cursor_of p m) 0) (sym c.self.invariant.0) ∙ ap (λ (ws : List ℕ). get_or ws (cursor_of on.key m) 0) (sym last.2)) in
    record {
      claims = λ m place below.
          let chunks = all_chunks on.key s.words s.views c.args.whole.id v m place last.1.1 workers sound in
          let at = cursor m below in
          ((λ lt. sym chunks ∙ sound.chunks_add_up.below m place (on_key m below) (omega arith)), (λ le. sym chunks ∙ sound.chunks_add_up.above m place (on_key m below) (omega arith)));
      within = λ m below.
          let at = cursor m below in
          let in_roots = sound.chunks_add_up.within m (on_key m below) in
          subst (λ (p : Setup). get_or c.loop-machine.cursors m 0 ≤ roots_of p m) same (omega arith);
      past = λ m le. c.loop-machine.invariant.past m (omega arith);
    }
