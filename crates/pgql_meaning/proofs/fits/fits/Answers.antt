use Rattle.std.proofs.Common.{◌≡◌, true, false, sym, rules, ◌∙◌}
use Rattle.pgql_meaning.proofs.Pruning.{fails_by_joins, fails_by_labels, fits_where_holds}
use Rattle.pgql_meaning.proofs.fits.fits.Goals as goal

pub returns-then-not-are_labelled : goal.returns-then-not-are_labelled
returns-then-not-are_labelled c =
    let fails : c.are_labelled.result ≡ false = search rules in
    fails_by_labels c.args.texts.now c.args.graph.now c.args.query.now c.args.numbers.now (sym c.are_labelled.ensures ∙ fails)

pub returns-then-not-are_joined : goal.returns-then-not-are_joined
returns-then-not-are_joined c =
    let passes : c.are_labelled.result ≡ true = search rules in
    let fails : c.are_joined.result ≡ false = search rules in
    fails_by_joins c.args.texts.now c.args.graph.now c.args.query.now c.args.numbers.now (sym c.are_labelled.ensures ∙ passes) (sym c.are_joined.ensures ∙ fails)

pub returns : goal.returns
returns c =
    let passes : c.are_labelled.result ≡ true = search rules in
    let joined : c.are_joined.result ≡ true = search rules in
    let holds = rw c.requires at c.all_hold.ensures in
    holds ∙ fits_where_holds c.args.texts.now c.args.graph.now c.args.query.now c.args.numbers.now (sym c.are_labelled.ensures ∙ passes) (sym c.are_joined.ensures ∙ joined)
