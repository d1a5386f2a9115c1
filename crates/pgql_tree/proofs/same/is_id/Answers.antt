use Rattle.std.proofs.Common.{refl, sym}
use Rattle.pgql_tree.specs.declared.ast.AstExpr.TheVariants as e
use Rattle.pgql_tree.proofs.Bare.{same-Id, other-Id}
use Rattle.pgql_tree.proofs.same.is_id.Goals as goal

pub returns-in-Id : goal.returns-in-Id
returns-in-Id c =
    let both = same-Id c.args.x.now (e.Id c.args.variable.now 0) c.in-Id.other c.args.variable.now c.in-Id.at 0 c.in-Id.is refl in
    ((λ t. both.0 (c.same_placed.ensures.0 t)), (λ s. c.same_placed.ensures.1 (both.1 s)))

pub returns-in_default : goal.returns-in_default
returns-in_default c = ((λ t. absurd cc), (λ s. absurd (other-Id (e.Id c.args.variable.now 0) c.args.x.now c.args.variable.now 0 refl c.in_default.not-Id (sym s))))
