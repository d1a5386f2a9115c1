use Rattle.std.proofs.Common.{refl, sym}
use Rattle.pgql_tree.specs.declared.ast.AstExpr.TheVariants as e
use Rattle.pgql_tree.proofs.Bare.{same-Date, other-Date}
use Rattle.pgql_tree.proofs.same.is_date.Goals as goal

pub returns-in-Date : goal.returns-in-Date
returns-in-Date c =
    let both = same-Date c.args.x.now (e.Date c.args.content.now 0) c.in-Date.other c.args.content.now c.in-Date.at 0 c.in-Date.is refl in
    let deep = rw (c.as_slice.ensures) at c.same_bytes.ensures in ((λ t. both.0 (deep.0 t)), (λ s. deep.1 (both.1 s)))

pub returns-in_default : goal.returns-in_default
returns-in_default c = ((λ t. absurd cc), (λ s. absurd (other-Date (e.Date c.args.content.now 0) c.args.x.now c.args.content.now 0 refl c.in_default.not-Date (sym s))))
