use Rattle.std.proofs.Common.{refl, sym}
use Rattle.pgql_tree.specs.declared.ast.AstExpr.TheVariants as e
use Rattle.pgql_tree.proofs.Bare.{same-Bool, other-Bool}
use Rattle.pgql_tree.proofs.same.is_bool.Goals as goal

pub returns-in-Bool : goal.returns-in-Bool
returns-in-Bool c =
    let both = same-Bool c.args.x.now (e.Bool c.args.truth 0) c.in-Bool.other c.args.truth c.in-Bool.at 0 c.in-Bool.is refl in
    ((λ t. both.0 (c.same_truth.ensures.0 t)), (λ s. c.same_truth.ensures.1 (both.1 s)))

pub returns-in_default : goal.returns-in_default
returns-in_default c = ((λ t. absurd cc), (λ s. absurd (other-Bool (e.Bool c.args.truth 0) c.args.x.now c.args.truth 0 refl c.in_default.not-Bool (sym s))))
