-- What all expressions of a query have, taken part by part.
use Rattle.std.proofs.Common.{◌≡◌, List, ◌++◌, Result, Ok, Err, sym, ap, ◌∙◌}
use Rattle.std.specs.Prelude.{fold, flat_map, IfOk, OnOk}
use Rattle.std.proofs.lemmas.List.Sums.{fold-append}
use Rattle.pgql_tree.specs.declared.ast.Ast.{Ast}
use Rattle.pgql_tree.specs.declared.ast.AstExpr.{AstExpr}
use Rattle.pgql_tree.specs.declared.ast.Op.{Op}
use Rattle.typed_query.specs.declared.expr.Expr.{Expr}
use Rattle.typed_query.specs.declared.expr.Expr.TheVariants as expr
use Rattle.typed_expr.specs.Typed.{of_all, of_condition}

pub fold-of_all : {X B : Type 0} (step : B → X → B) (f : AstExpr → List X) (ast : Ast) (before selected tested all : B)
    → selected ≡ fold step before (flat_map (λ item. f item.expr) ast.items) → tested ≡ fold step selected (of_condition f ast.condition)
    → all ≡ fold step tested (flat_map (λ key. f key.expr) ast.keys) → all ≡ fold step before (of_all f ast)
fold-of_all step f ast before selected tested all first second third =
    let items = flat_map (λ item. f item.expr) ast.items in
    let condition = of_condition f ast.condition in
    let keys = flat_map (λ key. f key.expr) ast.keys in
    third
    ∙ ap (λ b. fold step b keys) second
    ∙ ap (λ b. fold step (fold step b condition) keys) first
    ∙ sym (fold-append step before items (condition ++ keys) ∙ fold-append step (fold step before items) condition keys)

-- what follows from a call's clause, where it succeeds
pub on_ok : {T E P Q : Type 0} (answer : Result T E) → OnOk answer P → (P → Q) → OnOk answer Q
on_ok (Ok x) known follows = follows known
on_ok (Err e) known follows = tt

-- an operator between what its sides mean
pub joined : {E : Type 0} (op : Op) (left right whole l : Expr) (r answer : Result Expr E) → l ≡ left → IfOk r (λ x. x ≡ right) → expr.Binary op left right ≡ whole
    → IfOk answer (λ found. (side : Expr) × (r ≡ Ok side) × (found ≡ expr.Binary op l side)) → IfOk answer (λ found. found ≡ whole)
joined op left right whole l r (Err e) is told same made = tt
joined op left right whole l r (Ok found) is told same (side, was, made) =
    let there : side ≡ right = rw was at told in
    made ∙ ap (λ x. expr.Binary op x side) is ∙ ap (expr.Binary op left) there ∙ same
