use Rattle.std.proofs.Common.{◌∙◌, ◌++◌, sym, ap}
use Rattle.std.proofs.lemmas.List.{append-nil}
use Rattle.pattern_scope.specs.Names.{variable_of}
use Rattle.typed_expr.proofs.Columns.{double-told, single-told}
use Rattle.typed_expr.proofs.faults.add_if_double.Goals as goal

pub returns-in_ok-push : goal.returns-in_ok-push
returns-in_ok-push c = λ items is.
    let placed = c.args.placed.now in
    let told = double-told items placed c.variable_of.result (c.variable_of.ensures ∙ ap (λ vs. variable_of vs placed.name) is) (sym c.is_some.ensures ∙ c.if-is_some.true) in
    c.in_ok-push.ensures.ok ∙ ap (λ faults. c.args.faults.now ++ faults) (sym told)

pub returns-else-is_some : goal.returns-else-is_some
returns-else-is_some c = λ items is.
    let placed = c.args.placed.now in
    let told = single-told items placed c.variable_of.result (c.variable_of.ensures ∙ ap (λ vs. variable_of vs placed.name) is) (sym c.is_some.ensures ∙ c.if-is_some.false) in
    sym (ap (λ faults. c.args.faults.now ++ faults) told ∙ append-nil c.args.faults.now)
