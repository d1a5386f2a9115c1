use Rattle.std.proofs.Common.{◌≡◌, ◌∙◌, refl, sym, ap, true, false}
use Rattle.pgql_tree.specs.declared.ast.AstExpr.TheVariants as e
use Rattle.pgql_tree.specs.Same.{bare}
use Rattle.pgql_tree.proofs.Bare.{told_so, bare-Int, bare-Text, bare-Date, bare-Bool, bare-Name, bare-Property, bare-Id, bare-Label, bare-Not, bare-Neg, bare-IsNull, bare-Binary, same-Not, same-Neg, same-IsNull, same-Binary, other-Not, other-Neg, other-IsNull, other-Binary}
use Rattle.pgql_tree.proofs.same.+same_expr.Goals as goal

pub is_not-returns-in-Not : goal.is_not-returns-in-Not
is_not-returns-in-Not t c =
    let both = same-Not c.args.x.now (e.Not c.args.inside.now 0) c.in-Not.other c.args.inside.now c.in-Not.at 0 c.in-Not.is refl in
    let deep = rw c.get.ensures at c.same_expr.ensures in
    ((λ h. both.0 (deep.0 h)), (λ s. deep.1 (both.1 s)))

pub is_not-returns-in_default : goal.is_not-returns-in_default
is_not-returns-in_default t c = ((λ h. absurd cc), (λ s. absurd (other-Not (e.Not c.args.inside.now 0) c.args.x.now c.args.inside.now 0 refl c.in_default.not-Not (sym s))))

pub is_minus-returns-in-Neg : goal.is_minus-returns-in-Neg
is_minus-returns-in-Neg t c =
    let both = same-Neg c.args.x.now (e.Neg c.args.inside.now 0) c.in-Neg.other c.args.inside.now c.in-Neg.at 0 c.in-Neg.is refl in
    let deep = rw c.get.ensures at c.same_expr.ensures in
    ((λ h. both.0 (deep.0 h)), (λ s. deep.1 (both.1 s)))

pub is_minus-returns-in_default : goal.is_minus-returns-in_default
is_minus-returns-in_default t c = ((λ h. absurd cc), (λ s. absurd (other-Neg (e.Neg c.args.inside.now 0) c.args.x.now c.args.inside.now 0 refl c.in_default.not-Neg (sym s))))

pub is_null_test-returns-then-not-same_truth : goal.is_null_test-returns-then-not-same_truth
is_null_test-returns-then-not-same_truth t c =
    let both = same-IsNull c.args.x.now (e.IsNull c.args.inside.now c.args.negated 0) c.in-IsNull.other c.in-IsNull.other_negated c.args.inside.now c.args.negated c.in-IsNull.at 0 c.in-IsNull.is refl in
    ((λ h. absurd cc), (λ s. let holds : c.same_truth.result ≡ true = c.same_truth.ensures.1 (both.1 s).1 in let fails : c.same_truth.result ≡ false = c.if-not-same_truth.true in cc))

pub is_null_test-returns-else-not-same_truth : goal.is_null_test-returns-else-not-same_truth
is_null_test-returns-else-not-same_truth t c =
    let both = same-IsNull c.args.x.now (e.IsNull c.args.inside.now c.args.negated 0) c.in-IsNull.other c.in-IsNull.other_negated c.args.inside.now c.args.negated c.in-IsNull.at 0 c.in-IsNull.is refl in
    let deep = rw c.get.ensures at c.same_expr.ensures in
    ((λ h. both.0 (deep.0 h) (c.same_truth.ensures.0 c.if-not-same_truth.false)), (λ s. deep.1 (both.1 s).0))

pub is_null_test-returns-in_default : goal.is_null_test-returns-in_default
is_null_test-returns-in_default t c =
    ((λ h. absurd cc), (λ s. absurd (other-IsNull (e.IsNull c.args.inside.now c.args.negated 0) c.args.x.now c.args.inside.now c.args.negated 0 refl c.in_default.not-IsNull (sym s))))

pub is_binary-returns-then-not-same_op : goal.is_binary-returns-then-not-same_op
is_binary-returns-then-not-same_op t c =
    let both = same-Binary c.args.x.now (e.Binary c.args.op 0 c.args.left.now c.args.right.now) c.in-Binary.other_op c.in-Binary.other_left c.in-Binary.other_right c.args.op c.args.left.now c.args.right.now c.in-Binary.at 0 c.in-Binary.is refl in
    ((λ h. absurd cc), (λ s. let holds : c.same_op.result ≡ true = c.same_op.ensures.1 (both.1 s).0 in let fails : c.same_op.result ≡ false = c.if-not-same_op.true in cc))

pub is_binary-returns-then-not-same_expr : goal.is_binary-returns-then-not-same_expr
is_binary-returns-then-not-same_expr t c =
    let both = same-Binary c.args.x.now (e.Binary c.args.op 0 c.args.left.now c.args.right.now) c.in-Binary.other_op c.in-Binary.other_left c.in-Binary.other_right c.args.op c.args.left.now c.args.right.now c.in-Binary.at 0 c.in-Binary.is refl in
    let deep = rw c.get.ensures at c.same_expr.ensures in
    ((λ h. absurd cc), (λ s. let holds : c.same_expr.result ≡ true = deep.1 (both.1 s).1 in let fails : c.same_expr.result ≡ false = c.if-not-same_expr.true in cc))

pub is_binary-returns-else-not-same_expr : goal.is_binary-returns-else-not-same_expr
is_binary-returns-else-not-same_expr t c =
    let both = same-Binary c.args.x.now (e.Binary c.args.op 0 c.args.left.now c.args.right.now) c.in-Binary.other_op c.in-Binary.other_left c.in-Binary.other_right c.args.op c.args.left.now c.args.right.now c.in-Binary.at 0 c.in-Binary.is refl in
    let deep = rw c.get.ensures at c.same_expr.ensures in
    let deep2 = rw c.get-in-Binary.ensures at c.same_expr-in-Binary.ensures in
    ((λ h. both.0 (c.same_op.ensures.0 c.if-not-same_op.false) (deep.0 c.if-not-same_expr.false) (deep2.0 h)), (λ s. deep2.1 (both.1 s).2))

pub is_binary-returns-in_default : goal.is_binary-returns-in_default
is_binary-returns-in_default t c =
    ((λ h. absurd cc), (λ s. absurd (other-Binary (e.Binary c.args.op 0 c.args.left.now c.args.right.now) c.args.x.now c.args.op c.args.left.now c.args.right.now 0 refl (λ o l r at is. c.in_default.not-Binary o at l r is) (sym s))))

pub same_expr-returns-in-Int : goal.same_expr-returns-in-Int
same_expr-returns-in-Int t c = told_so c.args.a.now (e.Int c.in-Int.number 0) c.args.b.now (bare-Int c.in-Int.number 0 ∙ sym (ap bare c.in-Int.is ∙ bare-Int c.in-Int.number c.in-Int.at)) c.is_int.ensures

pub same_expr-returns-in-Text : goal.same_expr-returns-in-Text
same_expr-returns-in-Text t c = told_so c.args.a.now (e.Text c.in-Text.content 0) c.args.b.now (bare-Text c.in-Text.content 0 ∙ sym (ap bare c.in-Text.is ∙ bare-Text c.in-Text.content c.in-Text.at)) (rw c.as_slice.ensures at c.is_text.ensures)

pub same_expr-returns-in-Date : goal.same_expr-returns-in-Date
same_expr-returns-in-Date t c = told_so c.args.a.now (e.Date c.in-Date.content 0) c.args.b.now (bare-Date c.in-Date.content 0 ∙ sym (ap bare c.in-Date.is ∙ bare-Date c.in-Date.content c.in-Date.at)) (rw c.as_slice-in-Date.ensures at c.is_date.ensures)

pub same_expr-returns-in-Bool : goal.same_expr-returns-in-Bool
same_expr-returns-in-Bool t c = told_so c.args.a.now (e.Bool c.in-Bool.truth 0) c.args.b.now (bare-Bool c.in-Bool.truth 0 ∙ sym (ap bare c.in-Bool.is ∙ bare-Bool c.in-Bool.truth c.in-Bool.at)) c.is_bool.ensures

pub same_expr-returns-in-Name : goal.same_expr-returns-in-Name
same_expr-returns-in-Name t c = told_so c.args.a.now (e.Name 0 c.in-Name.name) c.args.b.now (bare-Name c.in-Name.name 0 ∙ sym (ap bare c.in-Name.is ∙ bare-Name c.in-Name.name c.in-Name.at)) c.is_name.ensures

pub same_expr-returns-in-Property : goal.same_expr-returns-in-Property
same_expr-returns-in-Property t c =
    told_so c.args.a.now (e.Property 0 c.in-Property.variable c.in-Property.property) c.args.b.now
    (bare-Property c.in-Property.variable c.in-Property.property 0 ∙ sym (ap bare c.in-Property.is ∙ bare-Property c.in-Property.variable c.in-Property.property c.in-Property.at))
    c.is_property.ensures

pub same_expr-returns-in-Id : goal.same_expr-returns-in-Id
same_expr-returns-in-Id t c = told_so c.args.a.now (e.Id c.in-Id.variable 0) c.args.b.now (bare-Id c.in-Id.variable 0 ∙ sym (ap bare c.in-Id.is ∙ bare-Id c.in-Id.variable c.in-Id.at)) c.is_id.ensures

pub same_expr-returns-in-Label : goal.same_expr-returns-in-Label
same_expr-returns-in-Label t c = told_so c.args.a.now (e.Label c.in-Label.variable 0) c.args.b.now (bare-Label c.in-Label.variable 0 ∙ sym (ap bare c.in-Label.is ∙ bare-Label c.in-Label.variable c.in-Label.at)) c.is_label.ensures

pub same_expr-returns-in-Not : goal.same_expr-returns-in-Not
same_expr-returns-in-Not t c = told_so c.args.a.now (e.Not c.in-Not.inside 0) c.args.b.now (bare-Not c.in-Not.inside 0 ∙ sym (ap bare c.in-Not.is ∙ bare-Not c.in-Not.inside c.in-Not.at)) (rw c.get.ensures at c.is_not.ensures)

pub same_expr-returns-in-Neg : goal.same_expr-returns-in-Neg
same_expr-returns-in-Neg t c = told_so c.args.a.now (e.Neg c.in-Neg.inside 0) c.args.b.now (bare-Neg c.in-Neg.inside 0 ∙ sym (ap bare c.in-Neg.is ∙ bare-Neg c.in-Neg.inside c.in-Neg.at)) (rw c.get-in-Neg.ensures at c.is_minus.ensures)

pub same_expr-returns-in-IsNull : goal.same_expr-returns-in-IsNull
same_expr-returns-in-IsNull t c =
    told_so c.args.a.now (e.IsNull c.in-IsNull.inside c.in-IsNull.negated 0) c.args.b.now
    (bare-IsNull c.in-IsNull.inside c.in-IsNull.negated 0 ∙ sym (ap bare c.in-IsNull.is ∙ bare-IsNull c.in-IsNull.inside c.in-IsNull.negated c.in-IsNull.at))
    (rw c.get-in-IsNull.ensures at c.is_null_test.ensures)

pub same_expr-returns-in-Binary : goal.same_expr-returns-in-Binary
same_expr-returns-in-Binary t c =
    told_so c.args.a.now (e.Binary c.in-Binary.op 0 c.in-Binary.left c.in-Binary.right) c.args.b.now
    (bare-Binary c.in-Binary.op c.in-Binary.left c.in-Binary.right 0 ∙ sym (ap bare c.in-Binary.is ∙ bare-Binary c.in-Binary.op c.in-Binary.left c.in-Binary.right c.in-Binary.at))
    (rw (c.get-in-Binary.ensures, c.get-in-Binary-2.ensures) at c.is_binary.ensures)
