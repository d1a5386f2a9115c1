use Rattle.std.proofs.Common.{◌∙◌, sym, ap}
use Rattle.std.specs.Prelude.{position}
use Rattle.std.specs.Str.{bytes_eq}
use Rattle.typed_expr.specs.Printed.{printed}
use Rattle.typed_expr.proofs.Written.{unwritten}
use Rattle.typed_expr.proofs.selected.is_among.Goals as goal

pub returns-in-None : goal.returns-in-None
returns-in-None c =
    let texts = c.args.selection.texts.now in
    let none = sym c.find.ensures.place ∙ c.in-None.is in
    sym (unwritten c.args.expr.now c.args.selection.items.now
    (ap (position (bytes_eq (printed c.args.expr.now))) (sym c.requires.texts) ∙ ap (λ text. position (bytes_eq text) texts) (sym c.requires.text) ∙ none))
