use Rattle.std.proofs.Common.{List, [], ◌∷◌, ◌++◌, sym, ap, arith, ◌∙◌}
use Rattle.std.proofs.lemmas.List.FromFn.{map-range_with_len_more}
use Rattle.stage_credits.specs.Seats.{Seated, fresh_seat}
use Rattle.stage_credits.proofs.credits.Credits.deal.Goals as goal

pub loop-worker-preserved : goal.loop-worker-preserved
loop-worker-preserved c =
    let f = fresh_seat c.args.self.now in
    let n = c.loop-worker.worker in
    let more = map-range_with_len_more f 0 n n (omega arith) in record {
      table = c.next_seat-seat.ensures.seat.0;
      me = c.next_seat-seat.ensures.seat.1;
      seats = c.in_ok-push.ensures.items
          ∙ (ap (λ (x : Seated). c.loop-worker.seats.items ++ x ∷ []) c.next_seat-seat.ensures.result ∙ (ap (λ (xs : List Seated). xs ++ f n ∷ []) c.loop-worker.invariant.seats ∙ sym more));
    }
