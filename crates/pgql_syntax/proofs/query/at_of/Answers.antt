use Rattle.std.proofs.Common.{sym, ap, ◌∙◌}
use Rattle.pgql_syntax.specs.Grammar.{at_of}
use Rattle.pgql_syntax.proofs.Ats.{at-Int, at-Text, at-Date, at-Bool, at-Name, at-Property, at-Id, at-Label, at-Not, at-Neg, at-IsNull, at-Binary}
use Rattle.pgql_syntax.proofs.query.at_of.Goals as goal

pub returns-in-Int : goal.returns-in-Int
returns-in-Int c = sym (ap at_of c.in-Int.is ∙ at-Int c.in-Int.number c.in-Int.at)

pub returns-in-Text : goal.returns-in-Text
returns-in-Text c = sym (ap at_of c.in-Text.is ∙ at-Text c.in-Text.content c.in-Text.at)

pub returns-in-Date : goal.returns-in-Date
returns-in-Date c = sym (ap at_of c.in-Date.is ∙ at-Date c.in-Date.content c.in-Date.at)

pub returns-in-Bool : goal.returns-in-Bool
returns-in-Bool c = sym (ap at_of c.in-Bool.is ∙ at-Bool c.in-Bool.truth c.in-Bool.at)

pub returns-in-Name : goal.returns-in-Name
returns-in-Name c = sym (ap at_of c.in-Name.is ∙ at-Name c.in-Name.name c.in-Name.at)

pub returns-in-Property : goal.returns-in-Property
returns-in-Property c = sym (ap at_of c.in-Property.is ∙ at-Property c.in-Property.variable c.in-Property.property c.in-Property.at)

pub returns-in-Id : goal.returns-in-Id
returns-in-Id c = sym (ap at_of c.in-Id.is ∙ at-Id c.in-Id.variable c.in-Id.at)

pub returns-in-Label : goal.returns-in-Label
returns-in-Label c = sym (ap at_of c.in-Label.is ∙ at-Label c.in-Label.variable c.in-Label.at)

pub returns-in-Not : goal.returns-in-Not
returns-in-Not c = sym (ap at_of c.in-Not.is ∙ at-Not c.in-Not.inside c.in-Not.at)

pub returns-in-Neg : goal.returns-in-Neg
returns-in-Neg c = sym (ap at_of c.in-Neg.is ∙ at-Neg c.in-Neg.inside c.in-Neg.at)

pub returns-in-IsNull : goal.returns-in-IsNull
returns-in-IsNull c = sym (ap at_of c.in-IsNull.is ∙ at-IsNull c.in-IsNull.inside c.in-IsNull.negated c.in-IsNull.at)

pub returns-in-Binary : goal.returns-in-Binary
returns-in-Binary c = sym (ap at_of c.in-Binary.is ∙ at-Binary c.in-Binary.op c.in-Binary.left c.in-Binary.right c.in-Binary.at)
