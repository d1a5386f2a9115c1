-- What a fold makes of each kind of expression.
use Rattle.std.proofs.Common.{◌≡◌, ◌∙◌, sym, ap, ℕ, Bool}
use Rattle.adfs_base.specs.declared.value.Value.{Value}
use Rattle.pgql_tree.specs.declared.ast.Op.{Op}
use Rattle.typed_query.specs.declared.expr.Expr.{Expr, fold-roll-Expr}
use Rattle.typed_query.specs.declared.expr.Expr.TheVariants.{Constant, Captured, Not, Neg, IsNull, Binary, rolls-Constant, rolls-Captured, rolls-Not, rolls-Neg, rolls-IsNull, rolls-Binary}
use Rattle.typed_query.specs.declared.expr.Expr.TheOpen.{Expr-F}
use Rattle.typed_query.specs.declared.expr.Expr.TheFolds.{fold-Expr}

module _ {X : Type 0} (step : Expr-F X → X) where
  pub fold-Constant : (a : Value) → fold-Expr X step (Constant a) ≡ step (Expr-F.Constant a)
  fold-Constant a = ap (fold-Expr X step) (sym (rolls-Constant a)) ∙ fold-roll-Expr X step (Expr-F.Constant a)

  pub fold-Captured : (i : ℕ) → fold-Expr X step (Captured i) ≡ step (Expr-F.Captured i)
  fold-Captured i = ap (fold-Expr X step) (sym (rolls-Captured i)) ∙ fold-roll-Expr X step (Expr-F.Captured i)

  pub fold-Not : (e : Expr) → fold-Expr X step (Not e) ≡ step (Expr-F.Not (fold-Expr X step e))
  fold-Not e = ap (fold-Expr X step) (sym (rolls-Not e)) ∙ fold-roll-Expr X step (Expr-F.Not e)

  pub fold-Neg : (e : Expr) → fold-Expr X step (Neg e) ≡ step (Expr-F.Neg (fold-Expr X step e))
  fold-Neg e = ap (fold-Expr X step) (sym (rolls-Neg e)) ∙ fold-roll-Expr X step (Expr-F.Neg e)

  pub fold-IsNull : (e : Expr) (negated : Bool) → fold-Expr X step (IsNull e negated) ≡ step (Expr-F.IsNull (fold-Expr X step e) negated)
  fold-IsNull e negated = ap (fold-Expr X step) (sym (rolls-IsNull e negated)) ∙ fold-roll-Expr X step (Expr-F.IsNull e negated)

  pub fold-Binary : (o : Op) (l r : Expr) → fold-Expr X step (Binary o l r) ≡ step (Expr-F.Binary o (fold-Expr X step l) (fold-Expr X step r))
  fold-Binary o l r = ap (fold-Expr X step) (sym (rolls-Binary o l r)) ∙ fold-roll-Expr X step (Expr-F.Binary o l r)
