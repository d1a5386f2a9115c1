-- A fact of each expression of a query, from the same fact of its parts.
use Rattle.std.proofs.Common.{sym, subst, ℕ, Bool}
use Rattle.adfs_base.specs.declared.value.Value.{Value}
use Rattle.pgql_tree.specs.declared.ast.Op.{Op}
use Rattle.typed_query.specs.declared.expr.Expr.{Expr, roll-Expr}
use Rattle.typed_query.specs.declared.expr.Expr.TheFolds.{ind-Expr, map-Expr}
use Rattle.typed_query.specs.declared.expr.Expr.TheOpen.{Expr-F}
use Rattle.typed_query.specs.declared.expr.Expr.TheVariants as expr

pub record HoldsByParts (P : Expr → Type 0) : Type 0 where
  pub constant : (value : Value) → P (expr.Constant value)
  pub captured : (place : ℕ) → P (expr.Captured place)
  pub not : (inside : Expr) → P inside → P (expr.Not inside)
  pub neg : (inside : Expr) → P inside → P (expr.Neg inside)
  pub is_null : (inside : Expr) (negated : Bool) → P inside → P (expr.IsNull inside negated)
  pub binary : (op : Op) (left right : Expr) → P left → P right → P (expr.Binary op left right)

module _ (P : Expr → Type 0) (parts : HoldsByParts P) where
  of_layer : {S : Type 0} (inside : S → Expr) → ((part : S) → P (inside part)) → (layer : Expr-F S) → P (roll-Expr (map-Expr S Expr inside layer))
  of_layer inside holds (Expr-F.Constant value) = subst P (sym (expr.rolls-Constant value)) (parts.constant value)
  of_layer inside holds (Expr-F.Captured place) = subst P (sym (expr.rolls-Captured place)) (parts.captured place)
  of_layer inside holds (Expr-F.Not x) = subst P (sym (expr.rolls-Not (inside x))) (parts.not (inside x) (holds x))
  of_layer inside holds (Expr-F.Neg x) = subst P (sym (expr.rolls-Neg (inside x))) (parts.neg (inside x) (holds x))
  of_layer inside holds (Expr-F.IsNull x negated) = subst P (sym (expr.rolls-IsNull (inside x) negated)) (parts.is_null (inside x) negated (holds x))
  of_layer inside holds (Expr-F.Binary op l r) = subst P (sym (expr.rolls-Binary op (inside l) (inside r))) (parts.binary op (inside l) (inside r) (holds l) (holds r))

  pub by_parts : (e : Expr) → P e
  by_parts = ind-Expr P (λ x layer is. subst (λ y. P (roll-Expr y)) is (of_layer (λ part. part.0) (λ part. part.1) layer))
