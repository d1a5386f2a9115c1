use Rattle.std.proofs.Common.{refl, sym}
use Rattle.pgql_tree.specs.declared.ast.AstExpr.TheVariants as e
use Rattle.pgql_tree.proofs.Bare.{same-Int, other-Int}
use Rattle.pgql_tree.proofs.same.is_int.Goals as goal

pub returns-in-Int : goal.returns-in-Int
returns-in-Int c =
    let both = same-Int c.args.x.now (e.Int c.args.number.now 0) c.in-Int.other c.args.number.now c.in-Int.at 0 c.in-Int.is refl in
    ((λ t. both.0 (c.same_number.ensures.0 t)), (λ s. c.same_number.ensures.1 (both.1 s)))

pub returns-in_default : goal.returns-in_default
returns-in_default c = ((λ t. absurd cc), (λ s. absurd (other-Int (e.Int c.args.number.now 0) c.args.x.now c.args.number.now 0 refl c.in_default.not-Int (sym s))))
