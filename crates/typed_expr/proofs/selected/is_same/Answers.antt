use Rattle.std.proofs.lemmas.Bool.Decides.{same_from_decides}
use Rattle.typed_expr.specs.Same.{same}
use Rattle.typed_expr.proofs.SameLaw.{is_told}
use Rattle.typed_expr.proofs.selected.is_same.Goals as goal

pub returns : goal.returns
returns c = same_from_decides _ (same c.args.a.now c.args.b.now) c.same_expr.ensures (is_told c.args.a.now c.args.b.now)
