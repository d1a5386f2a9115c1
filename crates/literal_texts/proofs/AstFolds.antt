-- What a fold makes of each kind of expression.
use Rattle.std.proofs.Common.{◌≡◌, ◌∙◌, sym, ap, ℕ, ℤ, Bool, List}
use Rattle.pgql_tree.specs.declared.ast.Op.{Op}
use Rattle.pgql_tree.specs.declared.ast.Placed.{Placed}
use Rattle.pgql_tree.specs.declared.ast.AstExpr.{AstExpr, fold-roll-AstExpr}
use Rattle.pgql_tree.specs.declared.ast.AstExpr.TheVariants as ast
use Rattle.pgql_tree.specs.declared.ast.AstExpr.TheOpen.{AstExpr-F}
use Rattle.pgql_tree.specs.declared.ast.AstExpr.TheFolds.{fold-AstExpr}

pub fold-Int : (X : Type 0) (step : AstExpr-F X → X) (expr : AstExpr) (number : ℤ) (at : ℕ) → expr ≡ ast.Int number at → fold-AstExpr X step expr ≡ step (AstExpr-F.Int number at)
fold-Int X step expr number at is = ap (fold-AstExpr X step) (is ∙ sym (ast.rolls-Int number at)) ∙ fold-roll-AstExpr X step (AstExpr-F.Int number at)

pub fold-Text : (X : Type 0) (step : AstExpr-F X → X) (expr : AstExpr) (content : List ℕ) (at : ℕ) → expr ≡ ast.Text content at → fold-AstExpr X step expr ≡ step (AstExpr-F.Text content at)
fold-Text X step expr content at is = ap (fold-AstExpr X step) (is ∙ sym (ast.rolls-Text content at)) ∙ fold-roll-AstExpr X step (AstExpr-F.Text content at)

pub fold-Date : (X : Type 0) (step : AstExpr-F X → X) (expr : AstExpr) (content : List ℕ) (at : ℕ) → expr ≡ ast.Date content at → fold-AstExpr X step expr ≡ step (AstExpr-F.Date content at)
fold-Date X step expr content at is = ap (fold-AstExpr X step) (is ∙ sym (ast.rolls-Date content at)) ∙ fold-roll-AstExpr X step (AstExpr-F.Date content at)

pub fold-Bool : (X : Type 0) (step : AstExpr-F X → X) (expr : AstExpr) (truth : Bool) (at : ℕ) → expr ≡ ast.Bool truth at → fold-AstExpr X step expr ≡ step (AstExpr-F.Bool truth at)
fold-Bool X step expr truth at is = ap (fold-AstExpr X step) (is ∙ sym (ast.rolls-Bool truth at)) ∙ fold-roll-AstExpr X step (AstExpr-F.Bool truth at)

pub fold-Name : (X : Type 0) (step : AstExpr-F X → X) (expr : AstExpr) (name : List ℕ) (at : ℕ) → expr ≡ ast.Name at name → fold-AstExpr X step expr ≡ step (AstExpr-F.Name at name)
fold-Name X step expr name at is = ap (fold-AstExpr X step) (is ∙ sym (ast.rolls-Name at name)) ∙ fold-roll-AstExpr X step (AstExpr-F.Name at name)

pub fold-Property : (X : Type 0) (step : AstExpr-F X → X) (expr : AstExpr) (variable property : List ℕ) (at : ℕ) → expr ≡ ast.Property at variable property → fold-AstExpr X step expr ≡ step (AstExpr-F.Property at variable property)
fold-Property X step expr variable property at is = ap (fold-AstExpr X step) (is ∙ sym (ast.rolls-Property at variable property)) ∙ fold-roll-AstExpr X step (AstExpr-F.Property at variable property)

pub fold-Id : (X : Type 0) (step : AstExpr-F X → X) (expr : AstExpr) (variable : Placed) (at : ℕ) → expr ≡ ast.Id variable at → fold-AstExpr X step expr ≡ step (AstExpr-F.Id variable at)
fold-Id X step expr variable at is = ap (fold-AstExpr X step) (is ∙ sym (ast.rolls-Id variable at)) ∙ fold-roll-AstExpr X step (AstExpr-F.Id variable at)

pub fold-Label : (X : Type 0) (step : AstExpr-F X → X) (expr : AstExpr) (variable : Placed) (at : ℕ) → expr ≡ ast.Label variable at → fold-AstExpr X step expr ≡ step (AstExpr-F.Label variable at)
fold-Label X step expr variable at is = ap (fold-AstExpr X step) (is ∙ sym (ast.rolls-Label variable at)) ∙ fold-roll-AstExpr X step (AstExpr-F.Label variable at)

pub fold-Not : (X : Type 0) (step : AstExpr-F X → X) (expr : AstExpr) (inside : AstExpr) (at : ℕ) → expr ≡ ast.Not inside at → fold-AstExpr X step expr ≡ step (AstExpr-F.Not (fold-AstExpr X step inside) at)
fold-Not X step expr inside at is = ap (fold-AstExpr X step) (is ∙ sym (ast.rolls-Not inside at)) ∙ fold-roll-AstExpr X step (AstExpr-F.Not inside at)

pub fold-Neg : (X : Type 0) (step : AstExpr-F X → X) (expr : AstExpr) (inside : AstExpr) (at : ℕ) → expr ≡ ast.Neg inside at → fold-AstExpr X step expr ≡ step (AstExpr-F.Neg (fold-AstExpr X step inside) at)
fold-Neg X step expr inside at is = ap (fold-AstExpr X step) (is ∙ sym (ast.rolls-Neg inside at)) ∙ fold-roll-AstExpr X step (AstExpr-F.Neg inside at)

pub fold-IsNull : (X : Type 0) (step : AstExpr-F X → X) (expr : AstExpr) (inside : AstExpr) (negated : Bool) (at : ℕ) → expr ≡ ast.IsNull inside negated at → fold-AstExpr X step expr ≡ step (AstExpr-F.IsNull (fold-AstExpr X step inside) negated at)
fold-IsNull X step expr inside negated at is = ap (fold-AstExpr X step) (is ∙ sym (ast.rolls-IsNull inside negated at)) ∙ fold-roll-AstExpr X step (AstExpr-F.IsNull inside negated at)

pub fold-Binary : (X : Type 0) (step : AstExpr-F X → X) (expr : AstExpr) (op : Op) (left right : AstExpr) (at : ℕ) → expr ≡ ast.Binary op at left right → fold-AstExpr X step expr ≡ step (AstExpr-F.Binary op at (fold-AstExpr X step left) (fold-AstExpr X step right))
fold-Binary X step expr op left right at is = ap (fold-AstExpr X step) (is ∙ sym (ast.rolls-Binary op at left right)) ∙ fold-roll-AstExpr X step (AstExpr-F.Binary op at left right)
