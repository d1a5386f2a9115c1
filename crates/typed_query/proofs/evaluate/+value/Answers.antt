use Rattle.std.proofs.Common.{◌∙◌, sym, ap, arith}
use Rattle.adfs_base.specs.declared.value.Value.TheVariants as value
use Rattle.typed_query.specs.declared.expr.Expr.TheViews.{sized-Binary, sized-IsNull, sized-Neg, sized-Not}
use Rattle.typed_query.specs.Val.{applied, minus, negation, null_test}
use Rattle.typed_query.proofs.Parts.{val-Binary, val-Captured, val-Constant, val-IsNull, val-Neg, val-Not}
use Rattle.typed_query.proofs.evaluate.+value.Goals as goal

pub value-requires : goal.value-requires
value-requires t c = grind (arith, sized-Not)

pub value-requires-in-Neg : goal.value-requires-in-Neg
value-requires-in-Neg t c = grind (arith, sized-Neg)

pub value-requires-in-IsNull : goal.value-requires-in-IsNull
value-requires-in-IsNull t c = grind (arith, sized-IsNull)

pub value-a-requires : goal.value-a-requires
value-a-requires t c = grind (arith, sized-Binary)

pub value-b-requires : goal.value-b-requires
value-b-requires t c = grind (arith, sized-Binary)

pub returns-in-Constant : goal.returns-in-Constant
returns-in-Constant t c = sym (val-Constant c.args.texts.now c.args.captured.now c.args.expr.now c.in-Constant.constant c.in-Constant.is)

pub returns-in-Some : goal.returns-in-Some
returns-in-Some t c =
    let e = val-Captured c.args.texts.now c.args.captured.now c.args.expr.now c.in-Captured.place c.in-Captured.is in
    c.in-Some.ensures.lookup.3.1 value.Null ∙ sym e

pub returns-in-None : goal.returns-in-None
returns-in-None t c =
    let e = val-Captured c.args.texts.now c.args.captured.now c.args.expr.now c.in-Captured.place c.in-Captured.is in
    c.in-None.ensures.lookup.4 (omega arith) value.Null ∙ sym e

pub returns-in-Not : goal.returns-in-Not
returns-in-Not t c =
    let inside = rw c.get-in-Not.ensures at c.value.ensures in
    c.negation.ensures ∙ ap negation inside ∙ sym (val-Not c.args.texts.now c.args.captured.now c.args.expr.now c.in-Not.inside c.in-Not.is)

pub returns-in-Neg : goal.returns-in-Neg
returns-in-Neg t c =
    let inside = rw c.get-in-Neg.ensures at c.value-in-Neg.ensures in
    c.minus.ensures ∙ ap minus inside ∙ sym (val-Neg c.args.texts.now c.args.captured.now c.args.expr.now c.in-Neg.inside c.in-Neg.is)

pub returns-in-IsNull : goal.returns-in-IsNull
returns-in-IsNull t c =
    let inside = rw c.get-in-IsNull.ensures at c.value-in-IsNull.ensures in
    c.null_test.ensures ∙ ap (λ a. null_test a c.in-IsNull.negated) inside
    ∙ sym (val-IsNull c.args.texts.now c.args.captured.now c.args.expr.now c.in-IsNull.inside c.in-IsNull.negated c.in-IsNull.is)

pub returns-in-Binary : goal.returns-in-Binary
returns-in-Binary t c =
    let left = rw c.get-in-Binary.ensures at c.value-a.ensures in
    let right = rw c.get-in-Binary-2.ensures at c.value-b.ensures in
    c.applied.ensures ∙ ap (λ a. applied c.args.texts.now c.in-Binary.op a c.value-b.result) left
    ∙ ap (applied c.args.texts.now c.in-Binary.op _) right
    ∙ sym (val-Binary c.args.texts.now c.args.captured.now c.args.expr.now c.in-Binary.op c.in-Binary.left c.in-Binary.right c.in-Binary.is)
