use Rattle.std.proofs.Common.{◌≡◌, ◌∙◌, ◌∷◌, [], arith, rules, true, refl, length-append, is_some, unwrap_or}
use Rattle.std.specs.Result.{is_ok}
use Rattle.element_store.proofs.CellFacts.{marked-push, there_or_not, words_where-push}
use Rattle.element_store.proofs.cells.Cells.push.Goals as goal

pub returns-clause-ok : goal.returns-clause-ok
returns-clause-ok c =
    let good : is_ok c.push-2.result ≡ true = search rules in
    let items = rw good at c.push-2.ensures.items in
    rw (items, c.in_ok-push.ensures.ok, c.is_some.ensures, c.unwrap_or.ensures, ← c.self.view_is)
    (words_where-push c.self.inside.present c.self.inside.words.items _ _ c.self.invariant.a_flag_each ∙ rw (there_or_not c.args.word _) refl)

pub invariant_of-self-else-is_err : goal.invariant_of-self-else-is_err
invariant_of-self-else-is_err c =
    let good : is_ok c.push-2.result ≡ true = search rules in
    let items = rw good at c.push-2.ensures.items in
    rw (items, c.in_ok-push.ensures.ok, c.is_some.ensures, c.unwrap_or.ensures) (record {
      a_flag_each = rw (length-append c.self.inside.present (is_some c.args.word ∷ []), length-append c.self.inside.words.items (unwrap_or c.args.word 18446744071562067968 ∷ [])) (omega (arith, c.self.invariant.a_flag_each));
      marked = marked-push c.self.inside.present c.self.inside.words.items c.args.word c.self.invariant.a_flag_each c.self.invariant.marked;
    })
