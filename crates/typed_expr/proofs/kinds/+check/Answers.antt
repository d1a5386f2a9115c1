use Rattle.std.proofs.Common.{sym}
use Rattle.typed_expr.specs.declared.kinds.Checked.{Checked}
use Rattle.typed_expr.specs.Kinds.{checked, checked_of}
use Rattle.literal_texts.proofs.AstFolds.{fold-Int, fold-Text, fold-Date, fold-Bool, fold-Name, fold-Property, fold-Id, fold-Label, fold-Not, fold-Neg, fold-IsNull, fold-Binary}
use Rattle.typed_expr.proofs.kinds.+check.Goals as goal

pub returns-in-Int : goal.returns-in-Int
unfolding checked
returns-in-Int t c =
    let means = fold-Int Checked (checked_of c.args.environment.schema.now c.args.environment.variables.now) c.args.expr.now c.in-Int.number c.in-Int.at c.in-Int.is in
    rw c.found.ensures (sym means)

pub returns-in-Text : goal.returns-in-Text
unfolding checked
returns-in-Text t c =
    let means = fold-Text Checked (checked_of c.args.environment.schema.now c.args.environment.variables.now) c.args.expr.now c.in-Text.content c.in-Text.at c.in-Text.is in
    rw c.found-in-Text.ensures (sym means)

pub returns-in-Date : goal.returns-in-Date
unfolding checked
returns-in-Date t c =
    let means = fold-Date Checked (checked_of c.args.environment.schema.now c.args.environment.variables.now) c.args.expr.now c.in-Date.content c.in-Date.at c.in-Date.is in
    rw (c.found-in-Date.ensures, c.date_kind.ensures) (sym means)

pub returns-in-Bool : goal.returns-in-Bool
unfolding checked
returns-in-Bool t c =
    let means = fold-Bool Checked (checked_of c.args.environment.schema.now c.args.environment.variables.now) c.args.expr.now c.in-Bool.truth c.in-Bool.at c.in-Bool.is in
    rw c.found-in-Bool.ensures (sym means)

pub returns-in-Name : goal.returns-in-Name
unfolding checked
returns-in-Name t c =
    let means = fold-Name Checked (checked_of c.args.environment.schema.now c.args.environment.variables.now) c.args.expr.now c.in-Name.name c.in-Name.at c.in-Name.is in
    rw (c.found-in-Name.ensures, c.used_as.ensures) (sym means)

pub returns-in-Property : goal.returns-in-Property
unfolding checked
returns-in-Property t c =
    let means = fold-Property Checked (checked_of c.args.environment.schema.now c.args.environment.variables.now) c.args.expr.now c.in-Property.variable c.in-Property.property c.in-Property.at c.in-Property.is in
    rw (c.found-in-Property.ensures, c.property_kind-kind.ensures) (sym means)

pub returns-in-Id : goal.returns-in-Id
unfolding checked
returns-in-Id t c =
    let means = fold-Id Checked (checked_of c.args.environment.schema.now c.args.environment.variables.now) c.args.expr.now c.in-Id.variable c.in-Id.at c.in-Id.is in
    rw (c.found-in-Id.ensures, c.called_as-kind.ensures) (sym means)

pub returns-in-Label : goal.returns-in-Label
unfolding checked
returns-in-Label t c =
    let means = fold-Label Checked (checked_of c.args.environment.schema.now c.args.environment.variables.now) c.args.expr.now c.in-Label.variable c.in-Label.at c.in-Label.is in
    rw (c.found-in-Label.ensures, c.called_as-kind-in-Label.ensures) (sym means)

pub returns-in-Not : goal.returns-in-Not
unfolding checked
returns-in-Not t c =
    let means = fold-Not Checked (checked_of c.args.environment.schema.now c.args.environment.variables.now) c.args.expr.now c.in-Not.inside c.in-Not.at c.in-Not.is in
    rw (c.found-in-Not.ensures, c.one_part.ensures, c.check-part.ensures, c.get.ensures) (sym means)

pub returns-in-Neg : goal.returns-in-Neg
unfolding checked
returns-in-Neg t c =
    let means = fold-Neg Checked (checked_of c.args.environment.schema.now c.args.environment.variables.now) c.args.expr.now c.in-Neg.inside c.in-Neg.at c.in-Neg.is in
    rw (c.found-in-Neg.ensures, c.one_part-in-Neg.ensures, c.check-part-in-Neg.ensures, c.get-in-Neg.ensures) (sym means)

pub returns-in-IsNull : goal.returns-in-IsNull
unfolding checked
returns-in-IsNull t c =
    let means = fold-IsNull Checked (checked_of c.args.environment.schema.now c.args.environment.variables.now) c.args.expr.now c.in-IsNull.inside c.in-IsNull.negated c.in-IsNull.at c.in-IsNull.is in
    rw (c.found-in-IsNull.ensures, c.tested.ensures, c.check-part-in-IsNull.ensures, c.get-in-IsNull.ensures) (sym means)

pub returns-in-Binary : goal.returns-in-Binary
unfolding checked
returns-in-Binary t c =
    let means = fold-Binary Checked (checked_of c.args.environment.schema.now c.args.environment.variables.now) c.args.expr.now c.in-Binary.op c.in-Binary.left c.in-Binary.right c.in-Binary.at c.in-Binary.is in
    rw (c.found-in-Binary.ensures, c.two_parts.ensures, c.check-a.ensures, c.check-b.ensures, c.get-in-Binary.ensures, c.get-in-Binary-2.ensures) (sym means)
