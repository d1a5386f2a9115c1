use Rattle.std.proofs.Common.{◌∙◌, sym, ap}
use Rattle.std.specs.Option.{option_copied}
use Rattle.typed_expr.proofs.Written.{any-on_true}
use Rattle.typed_expr.proofs.selected.is_item.Goals as goal

pub returns-in-Some : goal.returns-in-Some
returns-in-Some c = any-on_true c.args.expr.now c.args.items.now c.args.place c.in-Some.item.now c.is_same.result (sym c.at.ensures ∙ ap option_copied c.in-Some.is) c.is_same.ensures
