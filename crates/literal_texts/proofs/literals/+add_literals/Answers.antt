use Rattle.std.proofs.Common.{◌≡◌, ◌+◌, ◌∙◌, ℕ, length, sym, ap, arith}
use Rattle.std.specs.Prelude.{fold}
use Rattle.std.proofs.lemmas.List.{length-append}
use Rattle.std.proofs.lemmas.List.Sums.{fold-append}
use Rattle.value_text.specs.Texts.{with_text}
use Rattle.pgql_tree.specs.Literals.{literals}
use Rattle.literal_texts.proofs.Cases.{literals-Int, literals-Text, literals-Date, literals-Bool, literals-Name, literals-Property, literals-Id, literals-Label, literals-Not, literals-Neg, literals-IsNull, literals-Binary}
use Rattle.literal_texts.proofs.literals.+add_literals.Goals as goal
use Rattle.pgql_tree.specs.declared.ast.AstExpr.{AstExpr}
use Rattle.pgql_tree.specs.declared.ast.AstExpr.TheVariants as ast
use Rattle.pgql_tree.specs.declared.ast.AstExpr.TheViews.{sized-Binary, sized-IsNull, sized-Neg, sized-Not}
use Rattle.pgql_tree.specs.declared.ast.Op.{Op}

length-Binary : (whole : AstExpr) (op : Op) (left right : AstExpr) (at : ℕ) → whole ≡ ast.Binary op at left right → length (literals whole) ≡ length (literals left) + length (literals right)
length-Binary whole op left right at is = ap length (literals-Binary whole op left right at is) ∙ length-append (literals left) (literals right)

pub returns-in-Int-clause-ok : goal.returns-in-Int-clause-ok
returns-in-Int-clause-ok t c = ap (fold with_text c.args.texts.now) (sym (literals-Int c.args.expr.now c.in-Int.number c.in-Int.at c.in-Int.is))

pub returns-in-Date-clause-ok : goal.returns-in-Date-clause-ok
returns-in-Date-clause-ok t c = ap (fold with_text c.args.texts.now) (sym (literals-Date c.args.expr.now c.in-Date.content c.in-Date.at c.in-Date.is))

pub returns-in-Bool-clause-ok : goal.returns-in-Bool-clause-ok
returns-in-Bool-clause-ok t c = ap (fold with_text c.args.texts.now) (sym (literals-Bool c.args.expr.now c.in-Bool.truth c.in-Bool.at c.in-Bool.is))

pub returns-in-Name-clause-ok : goal.returns-in-Name-clause-ok
returns-in-Name-clause-ok t c = ap (fold with_text c.args.texts.now) (sym (literals-Name c.args.expr.now c.in-Name.name c.in-Name.at c.in-Name.is))

pub returns-in-Property-clause-ok : goal.returns-in-Property-clause-ok
returns-in-Property-clause-ok t c = ap (fold with_text c.args.texts.now) (sym (literals-Property c.args.expr.now c.in-Property.variable c.in-Property.property c.in-Property.at c.in-Property.is))

pub returns-in-Id-clause-ok : goal.returns-in-Id-clause-ok
returns-in-Id-clause-ok t c = ap (fold with_text c.args.texts.now) (sym (literals-Id c.args.expr.now c.in-Id.variable c.in-Id.at c.in-Id.is))

pub returns-in-Label-clause-ok : goal.returns-in-Label-clause-ok
returns-in-Label-clause-ok t c = ap (fold with_text c.args.texts.now) (sym (literals-Label c.args.expr.now c.in-Label.variable c.in-Label.at c.in-Label.is))

pub add_literals-requires : goal.add_literals-requires
add_literals-requires t c = (grind (arith, sized-Not), rw (c.get.ensures, sym (literals-Not c.args.expr.now c.in-Not.inside c.in-Not.at c.in-Not.is)) c.requires)

pub returns-in-Not-clause-ok : goal.returns-in-Not-clause-ok
returns-in-Not-clause-ok t c = rw (literals-Not c.args.expr.now c.in-Not.inside c.in-Not.at c.in-Not.is) (rw c.get.ensures at c.add_literals.ensures.ok)

pub returns-in-Not-clause-room : goal.returns-in-Not-clause-room
returns-in-Not-clause-room t c = rw (literals-Not c.args.expr.now c.in-Not.inside c.in-Not.at c.in-Not.is) (rw c.get.ensures at c.add_literals.ensures.room)

pub add_literals-requires-in-Neg : goal.add_literals-requires-in-Neg
add_literals-requires-in-Neg t c = (grind (arith, sized-Neg), rw (c.get-in-Neg.ensures, sym (literals-Neg c.args.expr.now c.in-Neg.inside c.in-Neg.at c.in-Neg.is)) c.requires)

pub returns-in-Neg-clause-ok : goal.returns-in-Neg-clause-ok
returns-in-Neg-clause-ok t c = rw (literals-Neg c.args.expr.now c.in-Neg.inside c.in-Neg.at c.in-Neg.is) (rw c.get-in-Neg.ensures at c.add_literals-in-Neg.ensures.ok)

pub returns-in-Neg-clause-room : goal.returns-in-Neg-clause-room
returns-in-Neg-clause-room t c = rw (literals-Neg c.args.expr.now c.in-Neg.inside c.in-Neg.at c.in-Neg.is) (rw c.get-in-Neg.ensures at c.add_literals-in-Neg.ensures.room)

pub add_literals-requires-in-IsNull : goal.add_literals-requires-in-IsNull
add_literals-requires-in-IsNull t c = (grind (arith, sized-IsNull), rw (c.get-in-IsNull.ensures, sym (literals-IsNull c.args.expr.now c.in-IsNull.inside c.in-IsNull.negated c.in-IsNull.at c.in-IsNull.is)) c.requires)

pub returns-in-IsNull-clause-ok : goal.returns-in-IsNull-clause-ok
returns-in-IsNull-clause-ok t c = rw (literals-IsNull c.args.expr.now c.in-IsNull.inside c.in-IsNull.negated c.in-IsNull.at c.in-IsNull.is) (rw c.get-in-IsNull.ensures at c.add_literals-in-IsNull.ensures.ok)

pub returns-in-IsNull-clause-room : goal.returns-in-IsNull-clause-room
returns-in-IsNull-clause-room t c = rw (literals-IsNull c.args.expr.now c.in-IsNull.inside c.in-IsNull.negated c.in-IsNull.at c.in-IsNull.is) (rw c.get-in-IsNull.ensures at c.add_literals-in-IsNull.ensures.room)

pub returns-in_ok-add-in-Text-clause-ok : goal.returns-in_ok-add-in-Text-clause-ok
returns-in_ok-add-in-Text-clause-ok t c = rw (literals-Text c.args.expr.now c.in-Text.content c.in-Text.at c.in-Text.is) (rw c.as_slice.ensures at c.in_ok-add-in-Text.ensures.texts)

pub returns-in_ok-add-in-Text-clause-room : goal.returns-in_ok-add-in-Text-clause-room
returns-in_ok-add-in-Text-clause-room t c = rw (literals-Text c.args.expr.now c.in-Text.content c.in-Text.at c.in-Text.is) c.in_ok-add-in-Text.ensures.room

pub add_literals-requires-in-Binary : goal.add_literals-requires-in-Binary
add_literals-requires-in-Binary t c =
    let all = length-Binary c.args.expr.now c.in-Binary.op c.in-Binary.left c.in-Binary.right c.in-Binary.at c.in-Binary.is in
    let few = c.requires in
    (grind (arith, sized-Binary), rw c.get-in-Binary.ensures (omega arith))

pub add_literals-requires-in-Binary-2 : goal.add_literals-requires-in-Binary-2
add_literals-requires-in-Binary-2 t c =
    let all = length-Binary c.args.expr.now c.in-Binary.op c.in-Binary.left c.in-Binary.right c.in-Binary.at c.in-Binary.is in
    let few = c.requires in
    let room = rw c.get-in-Binary.ensures at c.in_ok-add_literals-in-Binary.ensures.room in
    (grind (arith, sized-Binary), rw c.get-in-Binary-2.ensures (omega arith))

pub returns-in_err-add_literals-in-Binary-clause-room : goal.returns-in_err-add_literals-in-Binary-clause-room
returns-in_err-add_literals-in-Binary-clause-room t c =
    let all = length-Binary c.args.expr.now c.in-Binary.op c.in-Binary.left c.in-Binary.right c.in-Binary.at c.in-Binary.is in
    let room = rw c.get-in-Binary.ensures at c.add_literals-in-Binary.ensures.room in
    omega arith

pub returns-in_ok-add_literals-in-Binary-clause-ok : goal.returns-in_ok-add_literals-in-Binary-clause-ok
returns-in_ok-add_literals-in-Binary-clause-ok t c =
    rw (
      literals-Binary c.args.expr.now c.in-Binary.op c.in-Binary.left c.in-Binary.right c.in-Binary.at c.in-Binary.is,
      fold-append with_text c.args.texts.now (literals c.in-Binary.left) (literals c.in-Binary.right),
      sym (rw c.get-in-Binary.ensures at c.in_ok-add_literals-in-Binary.ensures.ok),
    )
    (rw c.get-in-Binary-2.ensures at c.add_literals-in-Binary-2.ensures.ok)

pub returns-in_ok-add_literals-in-Binary-clause-room : goal.returns-in_ok-add_literals-in-Binary-clause-room
returns-in_ok-add_literals-in-Binary-clause-room t c =
    let all = length-Binary c.args.expr.now c.in-Binary.op c.in-Binary.left c.in-Binary.right c.in-Binary.at c.in-Binary.is in
    let room = rw c.get-in-Binary.ensures at c.in_ok-add_literals-in-Binary.ensures.room in
    let more = rw c.get-in-Binary-2.ensures at c.add_literals-in-Binary-2.ensures.room in
    omega arith
