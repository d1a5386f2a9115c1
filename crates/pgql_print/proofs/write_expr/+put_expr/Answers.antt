use Rattle.std.proofs.lemmas.Result.{on_ok_weaker}
use Rattle.std.proofs.Common.{◌++◌, codes, sym, ap, ◌∙◌}
use Rattle.std.specs.Fmt.{signed_decimal}
use Rattle.pgql_tree.specs.declared.level.Level.TheVariants.{Not, Sum, Sign}
use Rattle.pgql_tree.specs.Levels.{tighter}
use Rattle.pgql_print.specs.Printing.{level_of, left_of, sign_of, is_looser, quoted, truth, null_test, spelled, own_level}
use Rattle.pgql_print.proofs.Spelling.{alone-Int, alone-Text, alone-Date, alone-Bool, alone-Name, alone-Property, alone-Id, alone-Label, alone-Not, alone-Neg, alone-IsNull, alone-Binary, with_parentheses, without_parentheses, one_write, two_writes, three_writes}
use Rattle.pgql_print.proofs.write_expr.+put_expr.Goals as goal

pub put_own-returns-in-Int : goal.put_own-returns-in-Int
put_own-returns-in-Int t c = on_ok_weaker c.put_number.result (λ wrote. one_write c.args.out.now.items c.put_number.new.out.items (signed_decimal c.in-Int.number) (spelled c.args.x.now (own_level c.args.x.now)) wrote
    (ap (λ x. spelled x (own_level x)) c.in-Int.is ∙ alone-Int c.in-Int.number c.in-Int.at)) c.put_number.ensures

pub put_own-returns-in-Text : goal.put_own-returns-in-Text
put_own-returns-in-Text t c = on_ok_weaker c.put_quoted.result (λ wrote. one_write c.args.out.now.items c.put_quoted.new.out.items (quoted c.in-Text.content) (spelled c.args.x.now (own_level c.args.x.now)) (wrote ∙ ap (λ v. c.args.out.now.items ++ quoted v) c.as_slice.ensures)
    (ap (λ x. spelled x (own_level x)) c.in-Text.is ∙ alone-Text c.in-Text.content c.in-Text.at)) c.put_quoted.ensures

pub put_own-returns-in-Date : goal.put_own-returns-in-Date
put_own-returns-in-Date t c =
    on_ok_weaker c.put_date.result (λ wrote. one_write c.args.out.now.items c.put_date.new.out.items (codes "DATE " ++ quoted c.in-Date.content)
    (spelled c.args.x.now (own_level c.args.x.now)) (wrote ∙ ap (λ v. c.args.out.now.items ++ (codes "DATE " ++ quoted v)) c.as_slice-in-Date.ensures)
    (ap (λ x. spelled x (own_level x)) c.in-Date.is ∙ alone-Date c.in-Date.content c.in-Date.at)) c.put_date.ensures

pub put_own-returns-in-Bool : goal.put_own-returns-in-Bool
put_own-returns-in-Bool t c = on_ok_weaker c.put_truth.result (λ wrote. one_write c.args.out.now.items c.put_truth.new.out.items (truth c.in-Bool.truth) (spelled c.args.x.now (own_level c.args.x.now)) wrote
    (ap (λ x. spelled x (own_level x)) c.in-Bool.is ∙ alone-Bool c.in-Bool.truth c.in-Bool.at)) c.put_truth.ensures

pub put_own-returns-in-Name : goal.put_own-returns-in-Name
put_own-returns-in-Name t c = on_ok_weaker c.put_name.result (λ wrote. one_write c.args.out.now.items c.put_name.new.out.items (c.in-Name.name) (spelled c.args.x.now (own_level c.args.x.now)) wrote
    (ap (λ x. spelled x (own_level x)) c.in-Name.is ∙ alone-Name c.in-Name.name c.in-Name.at)) c.put_name.ensures

pub put_own-returns-in-Property : goal.put_own-returns-in-Property
put_own-returns-in-Property t c = on_ok_weaker c.put_property.result (λ wrote. one_write c.args.out.now.items c.put_property.new.out.items (c.in-Property.variable ++ (codes "." ++ c.in-Property.property)) (spelled c.args.x.now (own_level c.args.x.now)) wrote
    (ap (λ x. spelled x (own_level x)) c.in-Property.is ∙ alone-Property c.in-Property.variable c.in-Property.property c.in-Property.at)) c.put_property.ensures

pub put_own-returns-in-Id : goal.put_own-returns-in-Id
put_own-returns-in-Id t c = on_ok_weaker c.put_call.result (λ wrote. one_write c.args.out.now.items c.put_call.new.out.items (codes "id(" ++ (c.in-Id.variable.name ++ codes ")")) (spelled c.args.x.now (own_level c.args.x.now)) wrote
    (ap (λ x. spelled x (own_level x)) c.in-Id.is ∙ alone-Id c.in-Id.variable c.in-Id.at)) c.put_call.ensures

pub put_own-returns-in-Label : goal.put_own-returns-in-Label
put_own-returns-in-Label t c = on_ok_weaker c.put_call-in-Label.result (λ wrote. one_write c.args.out.now.items c.put_call-in-Label.new.out.items (codes "label(" ++ (c.in-Label.variable.name ++ codes ")")) (spelled c.args.x.now (own_level c.args.x.now)) wrote
    (ap (λ x. spelled x (own_level x)) c.in-Label.is ∙ alone-Label c.in-Label.variable c.in-Label.at)) c.put_call-in-Label.ensures

pub put_own-returns-in_ok-put-in-Not : goal.put_own-returns-in_ok-put-in-Not
put_own-returns-in_ok-put-in-Not t c = on_ok_weaker c.put_expr.result (λ wrote. two_writes c.args.out.now.items c.put.new.out.items c.put_expr.new.out.items (codes "NOT ") (spelled c.in-Not.inside Not) (spelled c.args.x.now (own_level c.args.x.now))
    c.in_ok-put-in-Not.ensures (wrote ∙ ap (λ x. c.put.new.out.items ++ spelled x Not) c.get.ensures)
    (ap (λ x. spelled x (own_level x)) c.in-Not.is ∙ alone-Not c.in-Not.inside c.in-Not.at)) c.put_expr.ensures

pub put_own-returns-in_ok-put-in-Neg : goal.put_own-returns-in_ok-put-in-Neg
put_own-returns-in_ok-put-in-Neg t c = on_ok_weaker c.put_expr-in-Neg.result (λ wrote. two_writes c.args.out.now.items c.put-in-Neg.new.out.items c.put_expr-in-Neg.new.out.items (codes "-") (spelled c.in-Neg.inside Sign) (spelled c.args.x.now (own_level c.args.x.now))
    c.in_ok-put-in-Neg.ensures (wrote ∙ ap (λ x. c.put-in-Neg.new.out.items ++ spelled x Sign) c.get-in-Neg.ensures)
    (ap (λ x. spelled x (own_level x)) c.in-Neg.is ∙ alone-Neg c.in-Neg.inside c.in-Neg.at)) c.put_expr-in-Neg.ensures

pub put_own-returns-in_ok-put_expr-in-IsNull : goal.put_own-returns-in_ok-put_expr-in-IsNull
put_own-returns-in_ok-put_expr-in-IsNull t c = on_ok_weaker c.put-in-IsNull.result (λ wrote. two_writes c.args.out.now.items c.put_expr-in-IsNull.new.out.items c.put-in-IsNull.new.out.items (spelled c.in-IsNull.inside Sum) (null_test c.in-IsNull.negated) (spelled c.args.x.now (own_level c.args.x.now))
    (rw c.get-in-IsNull.ensures at c.in_ok-put_expr-in-IsNull.ensures) (wrote ∙ ap (λ v. c.put_expr-in-IsNull.new.out.items ++ v) c.null_test.ensures)
    (ap (λ x. spelled x (own_level x)) c.in-IsNull.is ∙ alone-IsNull c.in-IsNull.inside c.in-IsNull.negated c.in-IsNull.at)) c.put-in-IsNull.ensures

pub put_own-returns-in_ok-put-in-Binary : goal.put_own-returns-in_ok-put-in-Binary
put_own-returns-in_ok-put-in-Binary t c = on_ok_weaker c.put_expr-in-Binary-2.result (λ wrote. three_writes c.args.out.now.items c.put_expr-in-Binary.new.out.items c.put-in-Binary.new.out.items c.put_expr-in-Binary-2.new.out.items
    (spelled c.in-Binary.left (left_of c.in-Binary.op)) (sign_of c.in-Binary.op) (spelled c.in-Binary.right (tighter (level_of c.in-Binary.op))) (spelled c.args.x.now (own_level c.args.x.now))
    (rw (c.get-in-Binary.ensures, c.left_of.ensures) at c.in_ok-put_expr-in-Binary.ensures)
    (rw c.sign_of.ensures at c.in_ok-put-in-Binary.ensures)
    (rw (c.get-in-Binary-2.ensures, c.tighter.ensures, c.level_of.ensures) at wrote)
    (ap (λ x. spelled x (own_level x)) c.in-Binary.is ∙ alone-Binary c.in-Binary.op c.in-Binary.left c.in-Binary.right c.in-Binary.at)) c.put_expr-in-Binary-2.ensures

pub put_expr-returns-in_ok-put-2 : goal.put_expr-returns-in_ok-put-2
put_expr-returns-in_ok-put-2 t c =
    three_writes c.args.out.now.items c.put.new.out.items c.put_own.new.out.items c.put-then-is_looser.new.out.items (codes "(") (spelled c.args.x.now (own_level c.args.x.now)) (codes ")") (spelled c.args.x.now c.args.place)
    c.in_ok-put.ensures c.in_ok-put_own.ensures c.in_ok-put-2.ensures
    (with_parentheses c.args.x.now c.args.place (ap (is_looser c.args.place) (sym c.own_level.ensures) ∙ sym c.is_looser.ensures ∙ c.if-is_looser.true))

pub put_expr-returns-in_ok-put_own-2 : goal.put_expr-returns-in_ok-put_own-2
put_expr-returns-in_ok-put_own-2 t c =
    c.in_ok-put_own-2.ensures ∙ ap (λ v. c.args.out.now.items ++ v) (sym (without_parentheses c.args.x.now c.args.place (ap (is_looser c.args.place) (sym c.own_level.ensures) ∙ sym c.is_looser.ensures ∙ c.if-is_looser.false)))
