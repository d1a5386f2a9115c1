use Rattle.std.proofs.Common.{◌≡◌, ℕ, List, [], ◌∷◌, ◌+◌, ◌-◌, ◌*◌, ◌/◌, sym, ap, arith, ◌∙◌}
use Rattle.stage_credits.specs.declared.setup.Setup.{Setup}
use Rattle.stage_credits.specs.declared.view.View.{View}
use Rattle.stage_credits.specs.Start.{fresh_view, machines_of_workers, view_left}
use Rattle.stage_credits.specs.Seats.{Counters}
use Rattle.stage_credits.proofs.WorkerLists.{machines_of_workers-next}
use Rattle.stage_credits.proofs.Beginning.{one_out}
use Rattle.stage_credits.proofs.credits.Credits.next_seat.Goals as goal

pub split_seat-seat-requires : goal.split_seat-seat-requires
split_seat-seat-requires c =
    let on = c.self.inside.table.shared in
    let setup = c.args.self.now.setup in
    let same : setup ≡ on.key = sym (c.self.invariant.0 ∙ ap (λ (x : Counters). x.setup) c.self.view_is) in
    let total = setup.shape.machines * setup.shape.workers in
    let rest = machines_of_workers setup.shape.workers (c.args.worker + 1) (total - (c.args.worker + 1)) in
    let next : machines_of_workers setup.shape.workers c.args.worker (total - c.args.worker) ≡ c.args.worker / setup.shape.workers ∷ rest =
    machines_of_workers-next setup.shape.workers c.args.worker total c.requires.worker in
    let mine : c.args.first.now.me.0 ≡ fresh_view setup (c.args.worker / setup.shape.workers ∷ rest) = ap (λ (m : View × List (ℕ × ℕ)). m.0) c.requires.seat.1 ∙ ap (fresh_view setup) next in (
      c.requires.seat.0 ∙ sym (ap (λ (x : Counters). x.table) c.self.view_is),
      (let w = c.self.invariant.1 in omega arith),
      one_out on.key c.args.first.now.id (c.args.worker / setup.shape.workers) rest c.args.first.now.me.0 (mine ∙ ap (λ (p : Setup). fresh_view p (c.args.worker / setup.shape.workers ∷ rest)) same),
    )

pub returns-clause-seat : goal.returns-clause-seat
returns-clause-seat c =
    let setup = c.args.self.now.setup in
    let total = setup.shape.machines * setup.shape.workers in
    let rest = machines_of_workers setup.shape.workers (c.args.worker + 1) (total - (c.args.worker + 1)) in
    let next : machines_of_workers setup.shape.workers c.args.worker (total - c.args.worker) ≡ c.args.worker / setup.shape.workers ∷ rest =
    machines_of_workers-next setup.shape.workers c.args.worker total c.requires.worker in
    let M : Type 0 = View × List (ℕ × ℕ) in
    let old : c.args.first.now.me ≡ (fresh_view setup (c.args.worker / setup.shape.workers ∷ rest), []) = c.requires.seat.1 ∙ ap (λ (ms : List ℕ). let m : M = (fresh_view setup ms, []) in m) next in
    (c.split_seat-seat.ensures.0 ∙ c.requires.seat.0, c.split_seat-seat.ensures.2 ∙ ap (λ (m : M). let n : M = (view_left m.0, m.1) in n) old)
