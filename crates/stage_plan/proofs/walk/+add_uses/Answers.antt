use Rattle.std.proofs.Common.{◌≡◌, ◌∙◌, ◌++◌, [], sym, ap, append_assoc, append-nil}
use Rattle.typed_expr.specs.Parts.{captures}
use Rattle.typed_expr.proofs.Parts.{captures-Binary, captures-Captured, captures-Constant, captures-IsNull, captures-Neg, captures-Not}
use Rattle.stage_plan.proofs.walk.+add_uses.Goals as goal

pub returns-in-Constant : goal.returns-in-Constant
returns-in-Constant t c =
    sym (append-nil c.args.found.now) ∙ ap (λ used. c.args.found.now ++ used) (sym (captures-Constant c.args.expr.now c.in-Constant.field-0 c.in-Constant.is))

pub returns-in-Captured : goal.returns-in-Captured
returns-in-Captured t c = rw (captures-Captured c.args.expr.now c.in-Captured.place c.in-Captured.is) c.push.ensures.ok

pub returns-in-Not : goal.returns-in-Not
returns-in-Not t c = rw (captures-Not c.args.expr.now c.in-Not.inside c.in-Not.is) (rw c.get.ensures at c.add_uses.ensures)

pub returns-in-Neg : goal.returns-in-Neg
returns-in-Neg t c = rw (captures-Neg c.args.expr.now c.in-Neg.inside c.in-Neg.is) (rw c.get-in-Neg.ensures at c.add_uses-in-Neg.ensures)

pub returns-in-IsNull : goal.returns-in-IsNull
returns-in-IsNull t c =
    rw (captures-IsNull c.args.expr.now c.in-IsNull.inside c.in-IsNull.field-1 c.in-IsNull.is) (rw c.get-in-IsNull.ensures at c.add_uses-in-IsNull.ensures)

pub returns-in_ok-add_uses-in-Binary : goal.returns-in_ok-add_uses-in-Binary
returns-in_ok-add_uses-in-Binary t c =
    rw (
      captures-Binary c.args.expr.now c.in-Binary.field-0 c.in-Binary.left c.in-Binary.right c.in-Binary.is,
      sym (append_assoc c.args.found.now (captures c.in-Binary.left) (captures c.in-Binary.right)),
      sym (rw c.get-in-Binary.ensures at c.in_ok-add_uses-in-Binary.ensures),
    )
    (rw c.get-in-Binary-2.ensures at c.add_uses-in-Binary-2.ensures)
