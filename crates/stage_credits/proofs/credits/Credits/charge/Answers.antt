use Rattle.std.proofs.Common.{◌≡◌, sym, ap, subst, ◌∙◌, arith}
use Rattle.stage_credits.specs.Layout.{limit_at}
use Rattle.stage_credits.specs.Seats.{Counters}
use Rattle.stage_credits.proofs.credits.Credits.charge.Goals as goal

pub take_credit-requires-clause-limit : goal.take_credit-requires-clause-limit
take_credit-requires-clause-limit c =
    let same = ap (λ (it : Counters). it.setup) c.self.view_is in
    let limit = c.from-limit.ensures ∙ c.limit.ensures c.args.stage ∙ ap (limit_at c.self.inside.setup) (sym c.unit-unit.ensures.value) in
    (subst (λ setup. c.from-limit.result ≡ limit_at setup c.unit-unit.result) same limit, omega arith)

pub take_credit-requires-clause-may : goal.take_credit-requires-clause-may
take_credit-requires-clause-may c = c.requires.may
