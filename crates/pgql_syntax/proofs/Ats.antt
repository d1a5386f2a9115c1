-- The place of each kind of expression.
use Rattle.std.proofs.Common.{◌≡◌, ℕ, Bool, List, ap}
use Rattle.std.specs.Prelude.{ℤ}
use Rattle.pgql_tree.specs.declared.ast.Op.{Op}
use Rattle.pgql_tree.specs.declared.ast.Placed.{Placed}
use Rattle.pgql_tree.specs.declared.ast.AstExpr.{AstExpr}
use Rattle.pgql_tree.specs.declared.ast.AstExpr.TheVariants as e
use Rattle.pgql_syntax.specs.Grammar.{at_by, at_of}

pub at-Int : (n : ℤ) (at : ℕ) → at_of (e.Int n at) ≡ at
unfolding at_of
at-Int n at = ap at_by (e.outs-Int n at)

pub at-Text : (c : List ℕ) (at : ℕ) → at_of (e.Text c at) ≡ at
unfolding at_of
at-Text c at = ap at_by (e.outs-Text c at)

pub at-Date : (c : List ℕ) (at : ℕ) → at_of (e.Date c at) ≡ at
unfolding at_of
at-Date c at = ap at_by (e.outs-Date c at)

pub at-Bool : (b : Bool) (at : ℕ) → at_of (e.Bool b at) ≡ at
unfolding at_of
at-Bool b at = ap at_by (e.outs-Bool b at)

pub at-Name : (n : List ℕ) (at : ℕ) → at_of (e.Name at n) ≡ at
unfolding at_of
at-Name n at = ap at_by (e.outs-Name at n)

pub at-Property : (v p : List ℕ) (at : ℕ) → at_of (e.Property at v p) ≡ at
unfolding at_of
at-Property v p at = ap at_by (e.outs-Property at v p)

pub at-Id : (v : Placed) (at : ℕ) → at_of (e.Id v at) ≡ at
unfolding at_of
at-Id v at = ap at_by (e.outs-Id v at)

pub at-Label : (v : Placed) (at : ℕ) → at_of (e.Label v at) ≡ at
unfolding at_of
at-Label v at = ap at_by (e.outs-Label v at)

pub at-Not : (x : AstExpr) (at : ℕ) → at_of (e.Not x at) ≡ at
unfolding at_of
at-Not x at = ap at_by (e.outs-Not x at)

pub at-Neg : (x : AstExpr) (at : ℕ) → at_of (e.Neg x at) ≡ at
unfolding at_of
at-Neg x at = ap at_by (e.outs-Neg x at)

pub at-IsNull : (x : AstExpr) (n : Bool) (at : ℕ) → at_of (e.IsNull x n at) ≡ at
unfolding at_of
at-IsNull x n at = ap at_by (e.outs-IsNull x n at)

pub at-Binary : (o : Op) (l r : AstExpr) (at : ℕ) → at_of (e.Binary o at l r) ≡ at
unfolding at_of
at-Binary o l r at = ap at_by (e.outs-Binary o at l r)
