use Rattle.std.proofs.Common.{sym, ap, ◌∙◌}
use Rattle.pgql_print.specs.Printing.{own_level}
use Rattle.pgql_print.proofs.Spelling.{own-Int, own-Text, own-Date, own-Bool, own-Name, own-Property, own-Id, own-Label, own-Not, own-Neg, own-IsNull, own-Binary}
use Rattle.pgql_print.proofs.write_expr.own_level.Goals as goal

pub returns-in-Int : goal.returns-in-Int
returns-in-Int c = sym (ap own_level c.in-Int.is ∙ own-Int c.in-Int.number c.in-Int.at)

pub returns-in-Text : goal.returns-in-Text
returns-in-Text c = sym (ap own_level c.in-Text.is ∙ own-Text c.in-Text.content c.in-Text.at)

pub returns-in-Date : goal.returns-in-Date
returns-in-Date c = sym (ap own_level c.in-Date.is ∙ own-Date c.in-Date.content c.in-Date.at)

pub returns-in-Bool : goal.returns-in-Bool
returns-in-Bool c = sym (ap own_level c.in-Bool.is ∙ own-Bool c.in-Bool.truth c.in-Bool.at)

pub returns-in-Name : goal.returns-in-Name
returns-in-Name c = sym (ap own_level c.in-Name.is ∙ own-Name c.in-Name.name c.in-Name.at)

pub returns-in-Property : goal.returns-in-Property
returns-in-Property c = sym (ap own_level c.in-Property.is ∙ own-Property c.in-Property.variable c.in-Property.property c.in-Property.at)

pub returns-in-Id : goal.returns-in-Id
returns-in-Id c = sym (ap own_level c.in-Id.is ∙ own-Id c.in-Id.variable c.in-Id.at)

pub returns-in-Label : goal.returns-in-Label
returns-in-Label c = sym (ap own_level c.in-Label.is ∙ own-Label c.in-Label.variable c.in-Label.at)

pub returns-in-Not : goal.returns-in-Not
returns-in-Not c = sym (ap own_level c.in-Not.is ∙ own-Not c.in-Not.inside c.in-Not.at)

pub returns-in-Neg : goal.returns-in-Neg
returns-in-Neg c = sym (ap own_level c.in-Neg.is ∙ own-Neg c.in-Neg.inside c.in-Neg.at)

pub returns-in-IsNull : goal.returns-in-IsNull
returns-in-IsNull c = sym (ap own_level c.in-IsNull.is ∙ own-IsNull c.in-IsNull.inside c.in-IsNull.negated c.in-IsNull.at)

pub returns-in-Binary : goal.returns-in-Binary
returns-in-Binary c = c.level_of.ensures ∙ sym (ap own_level c.in-Binary.is ∙ own-Binary c.in-Binary.op c.in-Binary.left c.in-Binary.right c.in-Binary.at)
