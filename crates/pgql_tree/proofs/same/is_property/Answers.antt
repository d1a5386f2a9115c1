use Rattle.std.proofs.Common.{◌≡◌, refl, sym, true, false}
use Rattle.pgql_tree.specs.declared.ast.AstExpr.TheVariants as e
use Rattle.pgql_tree.proofs.Bare.{same-Property, other-Property}
use Rattle.pgql_tree.proofs.same.is_property.Goals as goal

pub returns-then-not-same_boxed : goal.returns-then-not-same_boxed
returns-then-not-same_boxed c =
    let both = same-Property c.args.x.now (e.Property 0 c.args.variable.now c.args.property.now) c.in-Property.other_variable c.in-Property.other_property c.args.variable.now c.args.property.now c.in-Property.at 0 c.in-Property.is refl in
    ((λ t. absurd cc), (λ s. let holds : c.same_boxed.result ≡ true = c.same_boxed.ensures.1 (both.1 s).0 in let fails : c.same_boxed.result ≡ false = c.if-not-same_boxed.true in cc))

pub returns-else-not-same_boxed : goal.returns-else-not-same_boxed
returns-else-not-same_boxed c =
    let both = same-Property c.args.x.now (e.Property 0 c.args.variable.now c.args.property.now) c.in-Property.other_variable c.in-Property.other_property c.args.variable.now c.args.property.now c.in-Property.at 0 c.in-Property.is refl in
    ((λ t. both.0 (c.same_boxed.ensures.0 c.if-not-same_boxed.false) (c.same_boxed-in-Property.ensures.0 t)), (λ s. c.same_boxed-in-Property.ensures.1 (both.1 s).1))

pub returns-in_default : goal.returns-in_default
returns-in_default c = ((λ t. absurd cc), (λ s. absurd (other-Property (e.Property 0 c.args.variable.now c.args.property.now) c.args.x.now c.args.variable.now c.args.property.now 0 refl (λ v p at is. c.in_default.not-Property at v p is) (sym s))))
