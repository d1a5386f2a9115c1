use Rattle.std.proofs.Common.{◌≡◌, Err, refl, rules, subst}
use Rattle.stage_plan.specs.Plans.{Gives, planned}
use Rattle.stage_plan.specs.declared.fault.PlanFault.TheVariants.{TooWide}
use Rattle.query_replies.proofs.VerdictFacts.{has_plan, too_wide}
use Rattle.query_replies.proofs.reading.planned.Goals as goal

pub returns-in-Ok : goal.returns-in-Ok
returns-in-Ok c = (refl, has_plan c.args.query c.in-Ok.plan c.in-Ok.ensures.gives)

pub returns-in-Err-TooWide : goal.returns-in-Err-TooWide
returns-in-Err-TooWide c =
    let wide : c.in-Err-TooWide.field-0 ≡ TooWide c.in-Err-TooWide.words = search rules in
    let gives = subst (λ e. Gives (Err e) (planned c.args.query)) wide c.in-Err-TooWide.ensures.gives in
    too_wide c.args.number c.args.query c.in-Err-TooWide.words c.refused.result gives c.refused.ensures
