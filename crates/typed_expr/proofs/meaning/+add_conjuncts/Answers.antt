use Rattle.std.proofs.Common.{◌∙◌, sym, append_assoc}
use Rattle.typed_expr.specs.Meaning.{conjuncts}
use Rattle.typed_expr.proofs.Conjuncts.{conjuncts-And, conjuncts-Captured, conjuncts-Constant, conjuncts-IsNull, conjuncts-Neg, conjuncts-Not, conjuncts-other}
use Rattle.typed_expr.proofs.meaning.+add_conjuncts.Goals as goal

pub returns-in-Constant : goal.returns-in-Constant
returns-in-Constant t c = rw (conjuncts-Constant c.args.condition c.in-Constant.value c.in-Constant.is) c.add-in-Constant.ensures

pub returns-in-Captured : goal.returns-in-Captured
returns-in-Captured t c = rw (conjuncts-Captured c.args.condition c.in-Captured.place c.in-Captured.is) c.add-in-Captured.ensures

pub returns-in-Not : goal.returns-in-Not
returns-in-Not t c = rw (conjuncts-Not c.args.condition c.in-Not.inside c.in-Not.is) c.add-in-Not.ensures

pub returns-in-Neg : goal.returns-in-Neg
returns-in-Neg t c = rw (conjuncts-Neg c.args.condition c.in-Neg.inside c.in-Neg.is) c.add-in-Neg.ensures

pub returns-in-IsNull : goal.returns-in-IsNull
returns-in-IsNull t c = rw (conjuncts-IsNull c.args.condition c.in-IsNull.inside c.in-IsNull.negated c.in-IsNull.is) c.add-in-IsNull.ensures

pub returns-else-is_and : goal.returns-else-is_and
returns-else-is_and t c = rw (conjuncts-other c.args.condition c.in-Binary.op c.in-Binary.left c.in-Binary.right c.in-Binary.is (sym c.is_and.ensures ∙ c.if-is_and.false)) c.add.ensures

pub returns-in_ok-add_conjuncts-in-Binary : goal.returns-in_ok-add_conjuncts-in-Binary
returns-in_ok-add_conjuncts-in-Binary t c =
    rw (
      conjuncts-And c.args.condition c.in-Binary.op c.in-Binary.left c.in-Binary.right c.in-Binary.is (sym c.is_and.ensures ∙ c.if-is_and.true),
      sym (append_assoc c.args.found.now (conjuncts c.in-Binary.left) (conjuncts c.in-Binary.right)),
      sym (rw c.into_inner.ensures at c.in_ok-add_conjuncts-in-Binary.ensures),
    )
    (rw c.into_inner-then-is_and.ensures at c.add_conjuncts-then-is_and.ensures)
