use Rattle.std.proofs.Common.{◌∙◌, sym, ap}
use Rattle.std.specs.Prelude.{find}
use Rattle.std.specs.Option.{option_and_then}
use Rattle.typed_expr.specs.Typed.{is_called}
use Rattle.typed_expr.proofs.Cases.{alone-Name, alone-Int, alone-Text, alone-Date, alone-Bool, alone-Property, alone-Id, alone-Label, alone-Not, alone-Neg, alone-IsNull, alone-Binary}
use Rattle.typed_expr.proofs.items.item_of.Goals as goal

pub returns-in-Name : goal.returns-in-Name
returns-in-Name c = c.item_called.ensures ∙ ap (option_and_then (λ name. find (is_called name) c.args.columns.items.now)) (sym (alone-Name c.args.expr.now c.in-Name.name c.in-Name.at c.in-Name.is))

pub returns-in-Int : goal.returns-in-Int
returns-in-Int c = ap (option_and_then (λ name. find (is_called name) c.args.columns.items.now)) (sym (alone-Int c.args.expr.now c.in-Int.number c.in-Int.at c.in-Int.is))

pub returns-in-Text : goal.returns-in-Text
returns-in-Text c = ap (option_and_then (λ name. find (is_called name) c.args.columns.items.now)) (sym (alone-Text c.args.expr.now c.in-Text.content c.in-Text.at c.in-Text.is))

pub returns-in-Date : goal.returns-in-Date
returns-in-Date c = ap (option_and_then (λ name. find (is_called name) c.args.columns.items.now)) (sym (alone-Date c.args.expr.now c.in-Date.content c.in-Date.at c.in-Date.is))

pub returns-in-Bool : goal.returns-in-Bool
returns-in-Bool c = ap (option_and_then (λ name. find (is_called name) c.args.columns.items.now)) (sym (alone-Bool c.args.expr.now c.in-Bool.truth c.in-Bool.at c.in-Bool.is))

pub returns-in-Property : goal.returns-in-Property
returns-in-Property c = ap (option_and_then (λ name. find (is_called name) c.args.columns.items.now)) (sym (alone-Property c.args.expr.now c.in-Property.variable c.in-Property.property c.in-Property.at c.in-Property.is))

pub returns-in-Id : goal.returns-in-Id
returns-in-Id c = ap (option_and_then (λ name. find (is_called name) c.args.columns.items.now)) (sym (alone-Id c.args.expr.now c.in-Id.variable c.in-Id.at c.in-Id.is))

pub returns-in-Label : goal.returns-in-Label
returns-in-Label c = ap (option_and_then (λ name. find (is_called name) c.args.columns.items.now)) (sym (alone-Label c.args.expr.now c.in-Label.variable c.in-Label.at c.in-Label.is))

pub returns-in-Not : goal.returns-in-Not
returns-in-Not c = ap (option_and_then (λ name. find (is_called name) c.args.columns.items.now)) (sym (alone-Not c.args.expr.now c.in-Not.inside c.in-Not.at c.in-Not.is))

pub returns-in-Neg : goal.returns-in-Neg
returns-in-Neg c = ap (option_and_then (λ name. find (is_called name) c.args.columns.items.now)) (sym (alone-Neg c.args.expr.now c.in-Neg.inside c.in-Neg.at c.in-Neg.is))

pub returns-in-IsNull : goal.returns-in-IsNull
returns-in-IsNull c = ap (option_and_then (λ name. find (is_called name) c.args.columns.items.now)) (sym (alone-IsNull c.args.expr.now c.in-IsNull.inside c.in-IsNull.negated c.in-IsNull.at c.in-IsNull.is))

pub returns-in-Binary : goal.returns-in-Binary
returns-in-Binary c = ap (option_and_then (λ name. find (is_called name) c.args.columns.items.now)) (sym (alone-Binary c.args.expr.now c.in-Binary.op c.in-Binary.left c.in-Binary.right c.in-Binary.at c.in-Binary.is))
