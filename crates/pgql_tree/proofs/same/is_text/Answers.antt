use Rattle.std.proofs.Common.{refl, sym}
use Rattle.pgql_tree.specs.declared.ast.AstExpr.TheVariants as e
use Rattle.pgql_tree.proofs.Bare.{same-Text, other-Text}
use Rattle.pgql_tree.proofs.same.is_text.Goals as goal

pub returns-in-Text : goal.returns-in-Text
returns-in-Text c =
    let both = same-Text c.args.x.now (e.Text c.args.content.now 0) c.in-Text.other c.args.content.now c.in-Text.at 0 c.in-Text.is refl in
    let deep = rw (c.as_slice.ensures) at c.same_bytes.ensures in ((λ t. both.0 (deep.0 t)), (λ s. deep.1 (both.1 s)))

pub returns-in_default : goal.returns-in_default
returns-in_default c = ((λ t. absurd cc), (λ s. absurd (other-Text (e.Text c.args.content.now 0) c.args.x.now c.args.content.now 0 refl c.in_default.not-Text (sym s))))
