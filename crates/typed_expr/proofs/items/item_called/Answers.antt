use Rattle.std.proofs.Common.{◌∙◌, sym, ap}
use Rattle.pattern_scope.specs.Names.{variable_of}
use Rattle.typed_expr.proofs.Columns.{find_item, item_in}
use Rattle.typed_expr.proofs.items.item_called.Goals as goal

pub returns-in-Some : goal.returns-in-Some
returns-in-Some c =
    let items = c.args.columns.items.now in
    c.at.ensures
    ∙ sym (find_item items c.args.name.now ∙ ap (item_in items) (ap (λ vs. variable_of vs c.args.name.now) (sym c.requires) ∙ sym c.variable_of.ensures ∙ c.in-Some.is))

pub returns-in-None : goal.returns-in-None
returns-in-None c =
    let items = c.args.columns.items.now in
    sym (find_item items c.args.name.now ∙ ap (item_in items) (ap (λ vs. variable_of vs c.args.name.now) (sym c.requires) ∙ sym c.variable_of.ensures ∙ c.in-None.is))
