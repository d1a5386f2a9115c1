use Rattle.std.proofs.Common.{sym}
use Rattle.typed_expr.proofs.Cases.{meant-Int, meant-Text, meant-Date, meant-Bool, meant-Name, meant-Property, meant-Id, meant-Label, meant-Not, meant-Neg, meant-IsNull, meant-Binary}
use Rattle.typed_expr.proofs.Wholes.{joined}
use Rattle.typed_expr.proofs.meaning.+meant.Goals as goal

pub returns-in-Bool : goal.returns-in-Bool
returns-in-Bool t c = sym (meant-Bool c.args.scene.environment.schema.now c.args.scene.environment.variables.now c.args.scene.captures.now c.args.scene.texts.now c.args.expr.now c.in-Bool.truth c.in-Bool.at c.in-Bool.is)

pub returns-in-Name : goal.returns-in-Name
returns-in-Name t c = sym (meant-Name c.args.scene.environment.schema.now c.args.scene.environment.variables.now c.args.scene.captures.now c.args.scene.texts.now c.args.expr.now c.in-Name.name c.in-Name.at c.in-Name.is)

pub returns-in-Int : goal.returns-in-Int
returns-in-Int t c = rw c.int_value.ensures (sym (meant-Int c.args.scene.environment.schema.now c.args.scene.environment.variables.now c.args.scene.captures.now c.args.scene.texts.now c.args.expr.now c.in-Int.number c.in-Int.at c.in-Int.is))

pub returns-in-Text : goal.returns-in-Text
returns-in-Text t c = rw c.text_value.ensures (sym (meant-Text c.args.scene.environment.schema.now c.args.scene.environment.variables.now c.args.scene.captures.now c.args.scene.texts.now c.args.expr.now c.in-Text.content c.in-Text.at c.in-Text.is))

pub returns-in-Date : goal.returns-in-Date
returns-in-Date t c = rw c.date_value.ensures (sym (meant-Date c.args.scene.environment.schema.now c.args.scene.environment.variables.now c.args.scene.captures.now c.args.scene.texts.now c.args.expr.now c.in-Date.content c.in-Date.at c.in-Date.is))

pub returns-in-Property : goal.returns-in-Property
returns-in-Property t c = rw (meant-Property c.args.scene.environment.schema.now c.args.scene.environment.variables.now c.args.scene.captures.now c.args.scene.texts.now c.args.expr.now c.in-Property.variable c.in-Property.property c.in-Property.at c.in-Property.is) c.meant_property.ensures

pub returns-in-Id : goal.returns-in-Id
returns-in-Id t c = rw (meant-Id c.args.scene.environment.schema.now c.args.scene.environment.variables.now c.args.scene.captures.now c.args.scene.texts.now c.args.expr.now c.in-Id.variable c.in-Id.at c.in-Id.is) c.meant_use.ensures

pub returns-in-Label : goal.returns-in-Label
returns-in-Label t c = rw (meant-Label c.args.scene.environment.schema.now c.args.scene.environment.variables.now c.args.scene.captures.now c.args.scene.texts.now c.args.expr.now c.in-Label.variable c.in-Label.at c.in-Label.is) c.meant_use-in-Label.ensures

pub returns-in_ok-meant-in-Not : goal.returns-in_ok-meant-in-Not
returns-in_ok-meant-in-Not t c =
    let part = rw c.get.ensures at c.in_ok-meant-in-Not.ensures in
    rw (meant-Not c.args.scene.environment.schema.now c.args.scene.environment.variables.now c.args.scene.captures.now c.args.scene.texts.now c.args.expr.now c.in-Not.inside c.in-Not.at c.in-Not.is, ← part) c.negation.ensures

pub returns-in_ok-meant-in-Neg : goal.returns-in_ok-meant-in-Neg
returns-in_ok-meant-in-Neg t c =
    let part = rw c.get-in-Neg.ensures at c.in_ok-meant-in-Neg.ensures in
    rw (meant-Neg c.args.scene.environment.schema.now c.args.scene.environment.variables.now c.args.scene.captures.now c.args.scene.texts.now c.args.expr.now c.in-Neg.inside c.in-Neg.at c.in-Neg.is, ← part) c.minus.ensures

pub returns-in_ok-meant-in-IsNull : goal.returns-in_ok-meant-in-IsNull
returns-in_ok-meant-in-IsNull t c =
    let part = rw c.get-in-IsNull.ensures at c.in_ok-meant-in-IsNull.ensures in
    rw (meant-IsNull c.args.scene.environment.schema.now c.args.scene.environment.variables.now c.args.scene.captures.now c.args.scene.texts.now c.args.expr.now c.in-IsNull.inside c.in-IsNull.negated c.in-IsNull.at c.in-IsNull.is, ← part) c.null_test.ensures

pub returns-in_ok-left-in-Binary : goal.returns-in_ok-left-in-Binary
returns-in_ok-left-in-Binary t c =
    let left = rw c.get-in-Binary.ensures at c.in_ok-left-in-Binary.ensures in
    let right = rw c.get-in-Binary-2.ensures at c.meant-right.ensures in
    let whole = meant-Binary c.args.scene.environment.schema.now c.args.scene.environment.variables.now c.args.scene.captures.now c.args.scene.texts.now c.args.expr.now c.in-Binary.op c.in-Binary.left c.in-Binary.right c.in-Binary.at c.in-Binary.is in
    joined c.in-Binary.op _ _ _ _ c.meant-right.result c.with_right.result left right (sym whole) c.with_right.ensures
