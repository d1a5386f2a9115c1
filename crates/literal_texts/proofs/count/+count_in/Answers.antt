use Rattle.std.proofs.Common.{◌∙◌, ◌-◌, ◌^◌, length, sym, ap}
use Rattle.std.specs.Prelude.{min}
use Rattle.std.proofs.lemmas.List.{length-append}
use Rattle.pgql_tree.specs.Literals.{literals}
use Rattle.literal_texts.proofs.Cases.{literals-Int, literals-Text, literals-Date, literals-Bool, literals-Name, literals-Property, literals-Id, literals-Label, literals-Not, literals-Neg, literals-IsNull, literals-Binary}
use Rattle.literal_texts.proofs.Counts.{min-add}
use Rattle.literal_texts.proofs.count.+count_in.Goals as goal

pub returns-in-Int : goal.returns-in-Int
returns-in-Int t c = ap (λ l. min (length l) (2 ^ 32 - 1)) (sym (literals-Int c.args.expr.now c.in-Int.number c.in-Int.at c.in-Int.is))

pub returns-in-Text : goal.returns-in-Text
returns-in-Text t c = ap (λ l. min (length l) (2 ^ 32 - 1)) (sym (literals-Text c.args.expr.now c.in-Text.content c.in-Text.at c.in-Text.is))

pub returns-in-Date : goal.returns-in-Date
returns-in-Date t c = ap (λ l. min (length l) (2 ^ 32 - 1)) (sym (literals-Date c.args.expr.now c.in-Date.content c.in-Date.at c.in-Date.is))

pub returns-in-Bool : goal.returns-in-Bool
returns-in-Bool t c = ap (λ l. min (length l) (2 ^ 32 - 1)) (sym (literals-Bool c.args.expr.now c.in-Bool.truth c.in-Bool.at c.in-Bool.is))

pub returns-in-Name : goal.returns-in-Name
returns-in-Name t c = ap (λ l. min (length l) (2 ^ 32 - 1)) (sym (literals-Name c.args.expr.now c.in-Name.name c.in-Name.at c.in-Name.is))

pub returns-in-Property : goal.returns-in-Property
returns-in-Property t c = ap (λ l. min (length l) (2 ^ 32 - 1)) (sym (literals-Property c.args.expr.now c.in-Property.variable c.in-Property.property c.in-Property.at c.in-Property.is))

pub returns-in-Id : goal.returns-in-Id
returns-in-Id t c = ap (λ l. min (length l) (2 ^ 32 - 1)) (sym (literals-Id c.args.expr.now c.in-Id.variable c.in-Id.at c.in-Id.is))

pub returns-in-Label : goal.returns-in-Label
returns-in-Label t c = ap (λ l. min (length l) (2 ^ 32 - 1)) (sym (literals-Label c.args.expr.now c.in-Label.variable c.in-Label.at c.in-Label.is))

pub returns-in-Not : goal.returns-in-Not
returns-in-Not t c = (rw c.get.ensures at c.count_in.ensures) ∙ ap (λ l. min (length l) (2 ^ 32 - 1)) (sym (literals-Not c.args.expr.now c.in-Not.inside c.in-Not.at c.in-Not.is))

pub returns-in-Neg : goal.returns-in-Neg
returns-in-Neg t c = (rw c.get-in-Neg.ensures at c.count_in-in-Neg.ensures) ∙ ap (λ l. min (length l) (2 ^ 32 - 1)) (sym (literals-Neg c.args.expr.now c.in-Neg.inside c.in-Neg.at c.in-Neg.is))

pub returns-in-IsNull : goal.returns-in-IsNull
returns-in-IsNull t c = (rw c.get-in-IsNull.ensures at c.count_in-in-IsNull.ensures) ∙ ap (λ l. min (length l) (2 ^ 32 - 1)) (sym (literals-IsNull c.args.expr.now c.in-IsNull.inside c.in-IsNull.negated c.in-IsNull.at c.in-IsNull.is))

pub returns-in-Binary : goal.returns-in-Binary
returns-in-Binary t c =
    rw (c.saturating_add.ensures, c.count_in-in-Binary.ensures, c.count_in-in-Binary-2.ensures, c.get-in-Binary.ensures, c.get-in-Binary-2.ensures)
    (min-add (length (literals c.in-Binary.left)) (length (literals c.in-Binary.right)) (2 ^ 32 - 1)
    ∙ ap (λ n. min n (2 ^ 32 - 1)) (sym (ap length (literals-Binary c.args.expr.now c.in-Binary.op c.in-Binary.left c.in-Binary.right c.in-Binary.at c.in-Binary.is) ∙ length-append (literals c.in-Binary.left) (literals c.in-Binary.right))))
