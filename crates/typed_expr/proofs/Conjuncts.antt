-- The conjuncts of each kind of expression.
use Rattle.std.proofs.Common.{◌≡◌, ◌∙◌, sym, ap, ℕ, Bool, true, false, if◌then◌else◌, List, [], ◌∷◌, ◌++◌}
use Rattle.adfs_base.specs.declared.value.Value.{Value}
use Rattle.pgql_tree.specs.declared.ast.Op.{Op}
use Rattle.typed_query.specs.declared.expr.Expr.{Expr, para-roll-Expr}
use Rattle.typed_query.specs.declared.expr.Expr.TheVariants as expr
use Rattle.typed_query.specs.declared.expr.Expr.TheOpen.{Expr-F}
use Rattle.typed_query.specs.declared.expr.Expr.TheFolds.{para-Expr}
use Rattle.typed_expr.specs.Meaning.{conjuncts, conjuncts_of, is_and}

pub conjuncts-Constant : (whole : Expr) (a : Value) → whole ≡ expr.Constant a → conjuncts whole ≡ expr.Constant a ∷ []
unfolding conjuncts
conjuncts-Constant whole a is = ap (para-Expr (List Expr) conjuncts_of) (is ∙ sym (expr.rolls-Constant a)) ∙ para-roll-Expr (List Expr) conjuncts_of (Expr-F.Constant a)

pub conjuncts-Captured : (whole : Expr) (i : ℕ) → whole ≡ expr.Captured i → conjuncts whole ≡ expr.Captured i ∷ []
unfolding conjuncts
conjuncts-Captured whole i is = ap (para-Expr (List Expr) conjuncts_of) (is ∙ sym (expr.rolls-Captured i)) ∙ para-roll-Expr (List Expr) conjuncts_of (Expr-F.Captured i)

pub conjuncts-Not : (whole : Expr) (inside : Expr) → whole ≡ expr.Not inside → conjuncts whole ≡ expr.Not inside ∷ []
unfolding conjuncts
conjuncts-Not whole inside is = ap (para-Expr (List Expr) conjuncts_of) (is ∙ sym (expr.rolls-Not inside)) ∙ para-roll-Expr (List Expr) conjuncts_of (Expr-F.Not inside)

pub conjuncts-Neg : (whole : Expr) (inside : Expr) → whole ≡ expr.Neg inside → conjuncts whole ≡ expr.Neg inside ∷ []
unfolding conjuncts
conjuncts-Neg whole inside is = ap (para-Expr (List Expr) conjuncts_of) (is ∙ sym (expr.rolls-Neg inside)) ∙ para-roll-Expr (List Expr) conjuncts_of (Expr-F.Neg inside)

pub conjuncts-IsNull : (whole : Expr) (inside : Expr) (negated : Bool) → whole ≡ expr.IsNull inside negated → conjuncts whole ≡ expr.IsNull inside negated ∷ []
unfolding conjuncts
conjuncts-IsNull whole inside negated is = ap (para-Expr (List Expr) conjuncts_of) (is ∙ sym (expr.rolls-IsNull inside negated)) ∙ para-roll-Expr (List Expr) conjuncts_of (Expr-F.IsNull inside negated)

conjuncts-Binary : (whole : Expr) (op : Op) (left right : Expr) → whole ≡ expr.Binary op left right → conjuncts whole ≡ (if is_and op then conjuncts left ++ conjuncts right else expr.Binary op left right ∷ [])
unfolding conjuncts
conjuncts-Binary whole op left right is = ap (para-Expr (List Expr) conjuncts_of) (is ∙ sym (expr.rolls-Binary op left right)) ∙ para-roll-Expr (List Expr) conjuncts_of (Expr-F.Binary op left right)

pub conjuncts-And : (whole : Expr) (op : Op) (left right : Expr) → whole ≡ expr.Binary op left right → is_and op ≡ true → conjuncts whole ≡ conjuncts left ++ conjuncts right
conjuncts-And whole op left right is and = conjuncts-Binary whole op left right is ∙ ap (λ t. if t then conjuncts left ++ conjuncts right else expr.Binary op left right ∷ []) and

pub conjuncts-other : (whole : Expr) (op : Op) (left right : Expr) → whole ≡ expr.Binary op left right → is_and op ≡ false → conjuncts whole ≡ expr.Binary op left right ∷ []
conjuncts-other whole op left right is other = conjuncts-Binary whole op left right is ∙ ap (λ t. if t then conjuncts left ++ conjuncts right else expr.Binary op left right ∷ []) other
