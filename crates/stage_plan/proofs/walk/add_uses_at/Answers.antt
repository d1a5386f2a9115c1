use Rattle.std.proofs.Common.{◌≤◌, ◌∙◌, ◌++◌, length, sym, subst, ap, append-nil}
use Rattle.stage_plan.proofs.Ready.{uses-past}
use Rattle.stage_plan.proofs.walk.add_uses_at.Goals as goal

pub returns-in-None : goal.returns-in-None
returns-in-None c =
    sym (append-nil c.args.found.now)
    ∙ ap (λ used. c.args.found.now ++ used) (sym (uses-past c.args.query.now c.args.number
    (subst (λ conjuncts. length conjuncts ≤ c.args.number) c.as_slice.ensures c.in-None.ensures.lookup.3)))
