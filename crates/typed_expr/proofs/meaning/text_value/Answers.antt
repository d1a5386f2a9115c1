use Rattle.std.proofs.Common.{◌∙◌, sym, ap}
use Rattle.adfs_base.specs.declared.value.Value.TheVariants as value
use Rattle.typed_expr.proofs.Lists.{position-none}
use Rattle.std.specs.Str.{bytes_eq}
use Rattle.typed_expr.proofs.meaning.text_value.Goals as goal

pub returns-in-None : goal.returns-in-None
returns-in-None c =
    ap value.Text (c.len.ensures.count ∙ position-none (bytes_eq c.args.content.now) c.args.texts.now (sym (rw c.as_slice.ensures at c.in-None.ensures.place)))
