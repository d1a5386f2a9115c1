-- Which kind of expression a tree is.
use Rattle.std.proofs.Common.{ℕ, Bool, List, sym, subst}
use Rattle.std.specs.Prelude.{ℤ}
use Rattle.pgql_tree.specs.declared.ast.Op.{Op}
use Rattle.pgql_tree.specs.declared.ast.Placed.{Placed}
use Rattle.pgql_tree.specs.declared.ast.AstExpr.{AstExpr, out-AstExpr, roll-AstExpr, roll-out-AstExpr}
use Rattle.pgql_tree.specs.declared.ast.AstExpr.TheVariants as e
use Rattle.pgql_tree.specs.declared.ast.AstExpr.TheOpen.{AstExpr-F}

pub data Is : AstExpr → Type 0 where
  is_Int : (n : ℤ) (at : ℕ) → Is (e.Int n at)
  is_Text : (c : List ℕ) (at : ℕ) → Is (e.Text c at)
  is_Date : (c : List ℕ) (at : ℕ) → Is (e.Date c at)
  is_Bool : (w : Bool) (at : ℕ) → Is (e.Bool w at)
  is_Name : (n : List ℕ) (at : ℕ) → Is (e.Name at n)
  is_Property : (v : List ℕ) (p : List ℕ) (at : ℕ) → Is (e.Property at v p)
  is_Id : (v : Placed) (at : ℕ) → Is (e.Id v at)
  is_Label : (v : Placed) (at : ℕ) → Is (e.Label v at)
  is_Not : (x : AstExpr) (at : ℕ) → Is (e.Not x at)
  is_Neg : (x : AstExpr) (at : ℕ) → Is (e.Neg x at)
  is_IsNull : (x : AstExpr) (w : Bool) (at : ℕ) → Is (e.IsNull x w at)
  is_Binary : (o : Op) (l : AstExpr) (r : AstExpr) (at : ℕ) → Is (e.Binary o at l r)

is_layer : (f : AstExpr-F AstExpr) → Is (roll-AstExpr f)
is_layer (AstExpr-F.Int n at) = subst Is (sym (e.rolls-Int n at)) (is_Int n at)
is_layer (AstExpr-F.Text c at) = subst Is (sym (e.rolls-Text c at)) (is_Text c at)
is_layer (AstExpr-F.Date c at) = subst Is (sym (e.rolls-Date c at)) (is_Date c at)
is_layer (AstExpr-F.Bool w at) = subst Is (sym (e.rolls-Bool w at)) (is_Bool w at)
is_layer (AstExpr-F.Name at n) = subst Is (sym (e.rolls-Name at n)) (is_Name n at)
is_layer (AstExpr-F.Property at v p) = subst Is (sym (e.rolls-Property at v p)) (is_Property v p at)
is_layer (AstExpr-F.Id v at) = subst Is (sym (e.rolls-Id v at)) (is_Id v at)
is_layer (AstExpr-F.Label v at) = subst Is (sym (e.rolls-Label v at)) (is_Label v at)
is_layer (AstExpr-F.Not x at) = subst Is (sym (e.rolls-Not x at)) (is_Not x at)
is_layer (AstExpr-F.Neg x at) = subst Is (sym (e.rolls-Neg x at)) (is_Neg x at)
is_layer (AstExpr-F.IsNull x w at) = subst Is (sym (e.rolls-IsNull x w at)) (is_IsNull x w at)
is_layer (AstExpr-F.Binary o at l r) = subst Is (sym (e.rolls-Binary o at l r)) (is_Binary o l r at)

pub which : (x : AstExpr) → Is x
which x = subst Is (roll-out-AstExpr x) (is_layer (out-AstExpr x))
