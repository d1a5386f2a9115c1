use Rattle.std.proofs.Common.{sym, ap}
use Rattle.std.specs.Prelude.{fold}
use Rattle.std.proofs.lemmas.List.Sums.{fold-append}
use Rattle.typed_expr.specs.Uses.{uses, with_use}
use Rattle.typed_expr.proofs.Cases.{uses-Int, uses-Text, uses-Date, uses-Bool, uses-Name, uses-Property, uses-Id, uses-Label, uses-Not, uses-Neg, uses-IsNull, uses-Binary}
use Rattle.typed_expr.proofs.uses.+add_uses.Goals as goal

pub returns-in-Int : goal.returns-in-Int
returns-in-Int t c = ap (fold with_use c.args.found.now) (sym (uses-Int c.args.environment.schema.now c.args.environment.variables.now c.args.expr.now c.in-Int.number c.in-Int.at c.in-Int.is))

pub returns-in-Text : goal.returns-in-Text
returns-in-Text t c = ap (fold with_use c.args.found.now) (sym (uses-Text c.args.environment.schema.now c.args.environment.variables.now c.args.expr.now c.in-Text.content c.in-Text.at c.in-Text.is))

pub returns-in-Date : goal.returns-in-Date
returns-in-Date t c = ap (fold with_use c.args.found.now) (sym (uses-Date c.args.environment.schema.now c.args.environment.variables.now c.args.expr.now c.in-Date.content c.in-Date.at c.in-Date.is))

pub returns-in-Bool : goal.returns-in-Bool
returns-in-Bool t c = ap (fold with_use c.args.found.now) (sym (uses-Bool c.args.environment.schema.now c.args.environment.variables.now c.args.expr.now c.in-Bool.truth c.in-Bool.at c.in-Bool.is))

pub returns-in-Name : goal.returns-in-Name
returns-in-Name t c = ap (fold with_use c.args.found.now) (sym (uses-Name c.args.environment.schema.now c.args.environment.variables.now c.args.expr.now c.in-Name.name c.in-Name.at c.in-Name.is))

pub returns-in_ok-used-in-Property : goal.returns-in_ok-used-in-Property
returns-in_ok-used-in-Property t c =
    rw (uses-Property c.args.environment.schema.now c.args.environment.variables.now c.args.expr.now c.in-Property.variable c.in-Property.property c.in-Property.at c.in-Property.is, sym c.in_ok-used-in-Property.ensures) c.add_use.ensures

pub returns-in_ok-used-in-Id : goal.returns-in_ok-used-in-Id
returns-in_ok-used-in-Id t c =
    rw (uses-Id c.args.environment.schema.now c.args.environment.variables.now c.args.expr.now c.in-Id.variable c.in-Id.at c.in-Id.is, sym c.in_ok-used-in-Id.ensures) c.add_use-in-Id.ensures

pub returns-in_ok-used-in-Label : goal.returns-in_ok-used-in-Label
returns-in_ok-used-in-Label t c =
    rw (uses-Label c.args.environment.schema.now c.args.environment.variables.now c.args.expr.now c.in-Label.variable c.in-Label.at c.in-Label.is, sym c.in_ok-used-in-Label.ensures) c.add_use-in-Label.ensures

pub returns-in-Not : goal.returns-in-Not
returns-in-Not t c =
    rw (uses-Not c.args.environment.schema.now c.args.environment.variables.now c.args.expr.now c.in-Not.inside c.in-Not.at c.in-Not.is) (rw c.get.ensures at c.add_uses.ensures)

pub returns-in-Neg : goal.returns-in-Neg
returns-in-Neg t c =
    rw (uses-Neg c.args.environment.schema.now c.args.environment.variables.now c.args.expr.now c.in-Neg.inside c.in-Neg.at c.in-Neg.is) (rw c.get-in-Neg.ensures at c.add_uses-in-Neg.ensures)

pub returns-in-IsNull : goal.returns-in-IsNull
returns-in-IsNull t c =
    rw (uses-IsNull c.args.environment.schema.now c.args.environment.variables.now c.args.expr.now c.in-IsNull.inside c.in-IsNull.negated c.in-IsNull.at c.in-IsNull.is) (rw c.get-in-IsNull.ensures at c.add_uses-in-IsNull.ensures)

pub returns-in_ok-add_uses-in-Binary : goal.returns-in_ok-add_uses-in-Binary
returns-in_ok-add_uses-in-Binary t c =
    let all = uses c.args.environment.schema.now c.args.environment.variables.now in
    rw (
      uses-Binary c.args.environment.schema.now c.args.environment.variables.now c.args.expr.now c.in-Binary.op c.in-Binary.left c.in-Binary.right c.in-Binary.at c.in-Binary.is,
      fold-append with_use c.args.found.now (all c.in-Binary.left) (all c.in-Binary.right),
      sym (rw c.get-in-Binary.ensures at c.in_ok-add_uses-in-Binary.ensures),
    )
    (rw c.get-in-Binary-2.ensures at c.add_uses-in-Binary-2.ensures)
