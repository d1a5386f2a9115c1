use Rattle.std.proofs.Common.{◌≤◌, length, sym, subst}
use Rattle.stage_plan.proofs.Ready.{whole-past}
use Rattle.stage_plan.proofs.walk.is_whole.Goals as goal

pub returns-in-None : goal.returns-in-None
returns-in-None c =
    sym (whole-past c.args.query.now c.args.known.now c.args.number
    (subst (λ conjuncts. length conjuncts ≤ c.args.number) c.as_slice.ensures c.in-None.ensures.lookup.3))
