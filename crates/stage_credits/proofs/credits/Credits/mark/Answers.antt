use Rattle.std.proofs.Common.{ℕ, ap, subst}
use Rattle.stage_credits.specs.declared.setup.Setup.{Setup}
use Rattle.stage_credits.specs.Rule.{IsWordOf}
use Rattle.stage_credits.specs.Seats.{Counters}
use Rattle.stage_credits.proofs.credits.Credits.mark.Goals as goal

pub check-seen-requires-clause-word : goal.check-seen-requires-clause-word
check-seen-requires-clause-word c =
    let place = c.place-place.result in
    subst (λ (p : Setup). IsWordOf p c.args.seat.now.view.closed place) (ap (λ (x : Counters). x.setup) c.self.view_is)
    (subst (λ (stage : ℕ). IsWordOf c.self.inside.setup stage place) c.requires.stage c.place-place.ensures.stage)
