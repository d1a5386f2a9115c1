use Rattle.std.proofs.Common.{refl, sym}
use Rattle.pgql_tree.specs.declared.ast.AstExpr.TheVariants as e
use Rattle.pgql_tree.proofs.Bare.{same-Label, other-Label}
use Rattle.pgql_tree.proofs.same.is_label.Goals as goal

pub returns-in-Label : goal.returns-in-Label
returns-in-Label c =
    let both = same-Label c.args.x.now (e.Label c.args.variable.now 0) c.in-Label.other c.args.variable.now c.in-Label.at 0 c.in-Label.is refl in
    ((λ t. both.0 (c.same_placed.ensures.0 t)), (λ s. c.same_placed.ensures.1 (both.1 s)))

pub returns-in_default : goal.returns-in_default
returns-in_default c = ((λ t. absurd cc), (λ s. absurd (other-Label (e.Label c.args.variable.now 0) c.args.x.now c.args.variable.now 0 refl c.in_default.not-Label (sym s))))
