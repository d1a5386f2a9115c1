use Rattle.std.proofs.Common.{◌≡◌, ◌<◌, ◌≤◌, inl, inr, length, sym, subst, arith}
use Rattle.std.proofs.lemmas.Bool.{cases_lt}
use Rattle.world_progress.proofs.Tries.{none-of, if-none, all-idle}
use Rattle.world_progress.proofs.choice.next_event.Goals as goal

pub returns-clause-none : goal.returns-clause-none
returns-clause-none g c =
    if-none _ _ c.first_from.result c.first_from.ensures.none (λ early. all-idle c.args.world.now c.workers.ensures.sound (λ i low. elim (cases_lt i c.args.from) [
      | inl before ↦ early i (omega arith) before
      | inr after ↦ none-of _ c.first_from-event.result c.is_some.result c.is_some.ensures c.if-is_some.false c.first_from-event.ensures.none
          i after (subst (λ ws. i < length ws) (sym c.workers.ensures.workers) low)
    ]))
