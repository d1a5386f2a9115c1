use Rattle.std.proofs.Common.{◌∙◌, ◌&&◌, sym, ap}
use Rattle.typed_expr.specs.Parts.{captures}
use Rattle.typed_expr.proofs.Parts.{captures-Binary, captures-Captured, captures-Constant, captures-IsNull, captures-Neg, captures-Not}
use Rattle.stage_plan.proofs.Ready.{all_known, known-both, known-one}
use Rattle.stage_plan.proofs.walk.+is_ready.Goals as goal

pub returns-in-Constant : goal.returns-in-Constant
returns-in-Constant t c = sym (ap (all_known c.args.captures.now c.args.known.now) (captures-Constant c.args.expr.now c.in-Constant.field-0 c.in-Constant.is))

pub returns-in-Captured : goal.returns-in-Captured
returns-in-Captured t c =
    c.is_known.ensures ∙ known-one c.args.captures.now c.args.known.now c.in-Captured.place
    ∙ sym (ap (all_known c.args.captures.now c.args.known.now) (captures-Captured c.args.expr.now c.in-Captured.place c.in-Captured.is))

pub returns-in-Not : goal.returns-in-Not
returns-in-Not t c =
    (rw c.get.ensures at c.is_ready.ensures)
    ∙ sym (ap (all_known c.args.captures.now c.args.known.now) (captures-Not c.args.expr.now c.in-Not.inside c.in-Not.is))

pub returns-in-Neg : goal.returns-in-Neg
returns-in-Neg t c =
    (rw c.get-in-Neg.ensures at c.is_ready-in-Neg.ensures)
    ∙ sym (ap (all_known c.args.captures.now c.args.known.now) (captures-Neg c.args.expr.now c.in-Neg.inside c.in-Neg.is))

pub returns-in-IsNull : goal.returns-in-IsNull
returns-in-IsNull t c =
    (rw c.get-in-IsNull.ensures at c.is_ready-in-IsNull.ensures)
    ∙ sym (ap (all_known c.args.captures.now c.args.known.now) (captures-IsNull c.args.expr.now c.in-IsNull.inside c.in-IsNull.field-1 c.in-IsNull.is))

pub returns-then-is_ready : goal.returns-then-is_ready
returns-then-is_ready t c =
    let known = all_known c.args.captures.now c.args.known.now in
    let left = rw c.get-in-Binary.ensures at c.is_ready-in-Binary.ensures in
    let right = rw c.get-then-is_ready.ensures at c.is_ready-then-is_ready.ensures in
    right
    ∙ ap (λ b. b && known (captures c.in-Binary.right)) (sym c.if-is_ready.true ∙ left)
    ∙ sym (known-both c.args.captures.now c.args.known.now (captures c.in-Binary.left) (captures c.in-Binary.right))
    ∙ sym (ap known (captures-Binary c.args.expr.now c.in-Binary.field-0 c.in-Binary.left c.in-Binary.right c.in-Binary.is))

pub returns-else-is_ready : goal.returns-else-is_ready
returns-else-is_ready t c =
    let known = all_known c.args.captures.now c.args.known.now in
    let left = rw c.get-in-Binary.ensures at c.is_ready-in-Binary.ensures in
    c.if-is_ready.false
    ∙ ap (λ b. b && known (captures c.in-Binary.right)) (sym c.if-is_ready.false ∙ left)
    ∙ sym (known-both c.args.captures.now c.args.known.now (captures c.in-Binary.left) (captures c.in-Binary.right))
    ∙ sym (ap known (captures-Binary c.args.expr.now c.in-Binary.field-0 c.in-Binary.left c.in-Binary.right c.in-Binary.is))
