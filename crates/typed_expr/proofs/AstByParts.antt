-- A fact of each expression, from the same fact of its parts.
use Rattle.std.proofs.Common.{sym, subst, ℕ, ℤ, Bool, List}
use Rattle.pgql_tree.specs.declared.ast.AstExpr.{AstExpr, roll-AstExpr}
use Rattle.pgql_tree.specs.declared.ast.AstExpr.TheOpen.{AstExpr-F}
use Rattle.pgql_tree.specs.declared.ast.AstExpr.TheFolds.{ind-AstExpr, map-AstExpr}
use Rattle.pgql_tree.specs.declared.ast.AstExpr.TheVariants as ast
use Rattle.pgql_tree.specs.declared.ast.Op.{Op}
use Rattle.pgql_tree.specs.declared.ast.Placed.{Placed}

pub record HoldsByParts (P : AstExpr → Type 0) : Type 0 where
  pub int : (number : ℤ) (at : ℕ) → P (ast.Int number at)
  pub text : (content : List ℕ) (at : ℕ) → P (ast.Text content at)
  pub date : (content : List ℕ) (at : ℕ) → P (ast.Date content at)
  pub bool : (truth : Bool) (at : ℕ) → P (ast.Bool truth at)
  pub name : (name : List ℕ) (at : ℕ) → P (ast.Name at name)
  pub property : (variable property : List ℕ) (at : ℕ) → P (ast.Property at variable property)
  pub id : (variable : Placed) (at : ℕ) → P (ast.Id variable at)
  pub label : (variable : Placed) (at : ℕ) → P (ast.Label variable at)
  pub not : (inside : AstExpr) (at : ℕ) → P inside → P (ast.Not inside at)
  pub neg : (inside : AstExpr) (at : ℕ) → P inside → P (ast.Neg inside at)
  pub is_null : (inside : AstExpr) (negated : Bool) (at : ℕ) → P inside → P (ast.IsNull inside negated at)
  pub binary : (op : Op) (left right : AstExpr) (at : ℕ) → P left → P right → P (ast.Binary op at left right)

module _ (P : AstExpr → Type 0) (parts : HoldsByParts P) where
  of_layer : {S : Type 0} (inside : S → AstExpr) → ((part : S) → P (inside part)) → (layer : AstExpr-F S) → P (roll-AstExpr (map-AstExpr S AstExpr inside layer))
  of_layer inside holds (AstExpr-F.Int number at) = subst P (sym (ast.rolls-Int number at)) (parts.int number at)
  of_layer inside holds (AstExpr-F.Text content at) = subst P (sym (ast.rolls-Text content at)) (parts.text content at)
  of_layer inside holds (AstExpr-F.Date content at) = subst P (sym (ast.rolls-Date content at)) (parts.date content at)
  of_layer inside holds (AstExpr-F.Bool truth at) = subst P (sym (ast.rolls-Bool truth at)) (parts.bool truth at)
  of_layer inside holds (AstExpr-F.Name at name) = subst P (sym (ast.rolls-Name at name)) (parts.name name at)
  of_layer inside holds (AstExpr-F.Property at variable property) = subst P (sym (ast.rolls-Property at variable property)) (parts.property variable property at)
  of_layer inside holds (AstExpr-F.Id variable at) = subst P (sym (ast.rolls-Id variable at)) (parts.id variable at)
  of_layer inside holds (AstExpr-F.Label variable at) = subst P (sym (ast.rolls-Label variable at)) (parts.label variable at)
  of_layer inside holds (AstExpr-F.Not x at) = subst P (sym (ast.rolls-Not (inside x) at)) (parts.not (inside x) at (holds x))
  of_layer inside holds (AstExpr-F.Neg x at) = subst P (sym (ast.rolls-Neg (inside x) at)) (parts.neg (inside x) at (holds x))
  of_layer inside holds (AstExpr-F.IsNull x negated at) = subst P (sym (ast.rolls-IsNull (inside x) negated at)) (parts.is_null (inside x) negated at (holds x))
  of_layer inside holds (AstExpr-F.Binary op at l r) = subst P (sym (ast.rolls-Binary op at (inside l) (inside r))) (parts.binary op (inside l) (inside r) at (holds l) (holds r))

  pub by_parts : (expr : AstExpr) → P expr
  by_parts = ind-AstExpr P (λ x layer is. subst (λ y. P (roll-AstExpr y)) is (of_layer (λ part. part.0) (λ part. part.1) layer))
