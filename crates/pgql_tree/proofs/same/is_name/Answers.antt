use Rattle.std.proofs.Common.{refl, sym}
use Rattle.pgql_tree.specs.declared.ast.AstExpr.TheVariants as e
use Rattle.pgql_tree.proofs.Bare.{same-Name, other-Name}
use Rattle.pgql_tree.proofs.same.is_name.Goals as goal

pub returns-in-Name : goal.returns-in-Name
returns-in-Name c =
    let both = same-Name c.args.x.now (e.Name 0 c.args.name.now) c.in-Name.other c.args.name.now c.in-Name.at 0 c.in-Name.is refl in
    ((λ t. both.0 (c.same_name.ensures.0 t)), (λ s. c.same_name.ensures.1 (both.1 s)))

pub returns-in_default : goal.returns-in_default
returns-in_default c = ((λ t. absurd cc), (λ s. absurd (other-Name (e.Name 0 c.args.name.now) c.args.x.now c.args.name.now 0 refl (λ n at is. c.in_default.not-Name at n is) (sym s))))
