use Rattle.std.proofs.Common.{◌∙◌, ◌++◌, ◌∷◌, [], arith, ap, sym}
use Rattle.stage_plan.proofs.Ready.{range-push}
use Rattle.stage_plan.proofs.walk.all_conjuncts.Goals as goal

pub loop-number-preserved : goal.loop-number-preserved
loop-number-preserved c =
    let number = c.loop-number.number in
    c.in_ok-push.ensures.items ∙ ap (λ numbers. numbers ++ number ∷ []) c.loop-number.invariant ∙ sym (range-push 0 number number (omega arith))
