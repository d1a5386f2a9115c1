-- What `same` says of each kind of expression.
use Rattle.std.proofs.Common.{◌≡◌, ◌∙◌, sym, ap, ℕ, ℤ, Bool, true, false, ◌&&◌, List, Option}
use Rattle.pgql_tree.specs.declared.ast.Op.{Op}
use Rattle.pgql_tree.specs.declared.ast.Placed.{Placed}
use Rattle.pgql_tree.specs.declared.ast.AstExpr.{AstExpr, out-AstExpr}
use Rattle.pgql_tree.specs.declared.ast.AstExpr.TheVariants as ast
use Rattle.pgql_tree.specs.declared.ast.AstExpr.TheOpen.{AstExpr-F}
use Rattle.typed_expr.specs.Same.{is_bool, is_binary, is_date, is_id, is_inside, is_int, is_label, is_name, is_null_test, is_property, is_text, neg_inside, not_inside, null_test_inside, same, same_of, sides}
use Rattle.literal_texts.proofs.AstFolds.{fold-Binary, fold-Bool, fold-Date, fold-Id, fold-Int, fold-IsNull, fold-Label, fold-Name, fold-Neg, fold-Not, fold-Property, fold-Text}

abbrev same_step : AstExpr-F (AstExpr → Bool) → AstExpr → Bool
same_step parts other = same_of parts (out-AstExpr other)

pub same-Int : (a b : AstExpr) (number : ℤ) (at : ℕ) → a ≡ ast.Int number at → same a b ≡ is_int number (out-AstExpr b)
unfolding same
same-Int a b number at is = ap (λ f. f b) (fold-Int (AstExpr → Bool) same_step a number at is)

pub same-Text : (a b : AstExpr) (content : List ℕ) (at : ℕ) → a ≡ ast.Text content at → same a b ≡ is_text content (out-AstExpr b)
unfolding same
same-Text a b content at is = ap (λ f. f b) (fold-Text (AstExpr → Bool) same_step a content at is)

pub same-Date : (a b : AstExpr) (content : List ℕ) (at : ℕ) → a ≡ ast.Date content at → same a b ≡ is_date content (out-AstExpr b)
unfolding same
same-Date a b content at is = ap (λ f. f b) (fold-Date (AstExpr → Bool) same_step a content at is)

pub same-Bool : (a b : AstExpr) (truth : Bool) (at : ℕ) → a ≡ ast.Bool truth at → same a b ≡ is_bool truth (out-AstExpr b)
unfolding same
same-Bool a b truth at is = ap (λ f. f b) (fold-Bool (AstExpr → Bool) same_step a truth at is)

pub same-Name : (a b : AstExpr) (name : List ℕ) (at : ℕ) → a ≡ ast.Name at name → same a b ≡ is_name name (out-AstExpr b)
unfolding same
same-Name a b name at is = ap (λ f. f b) (fold-Name (AstExpr → Bool) same_step a name at is)

pub same-Property : (a b : AstExpr) (variable property : List ℕ) (at : ℕ) → a ≡ ast.Property at variable property → same a b ≡ is_property variable property (out-AstExpr b)
unfolding same
same-Property a b variable property at is = ap (λ f. f b) (fold-Property (AstExpr → Bool) same_step a variable property at is)

pub same-Id : (a b : AstExpr) (variable : Placed) (at : ℕ) → a ≡ ast.Id variable at → same a b ≡ is_id variable.name (out-AstExpr b)
unfolding same
same-Id a b variable at is = ap (λ f. f b) (fold-Id (AstExpr → Bool) same_step a variable at is)

pub same-Label : (a b : AstExpr) (variable : Placed) (at : ℕ) → a ≡ ast.Label variable at → same a b ≡ is_label variable.name (out-AstExpr b)
unfolding same
same-Label a b variable at is = ap (λ f. f b) (fold-Label (AstExpr → Bool) same_step a variable at is)

pub same-Not : (a b inside : AstExpr) (at : ℕ) (found : Option AstExpr) → a ≡ ast.Not inside at → found ≡ not_inside (out-AstExpr b) → is_inside (same inside) found ≡ same a b
unfolding same
same-Not a b inside at found is view = ap (is_inside (same inside)) view ∙ sym (ap (λ f. f b) (fold-Not (AstExpr → Bool) same_step a inside at is))

pub same-Neg : (a b inside : AstExpr) (at : ℕ) (found : Option AstExpr) → a ≡ ast.Neg inside at → found ≡ neg_inside (out-AstExpr b) → is_inside (same inside) found ≡ same a b
unfolding same
same-Neg a b inside at found is view = ap (is_inside (same inside)) view ∙ sym (ap (λ f. f b) (fold-Neg (AstExpr → Bool) same_step a inside at is))

pub same-IsNull : (a b inside : AstExpr) (negated : Bool) (at : ℕ) (found : Option (AstExpr × Bool)) → a ≡ ast.IsNull inside negated at → found ≡ null_test_inside (out-AstExpr b)
    → is_null_test (same inside) negated found ≡ same a b
unfolding same
same-IsNull a b inside negated at found is view = ap (is_null_test (same inside) negated) view ∙ sym (ap (λ f. f b) (fold-IsNull (AstExpr → Bool) same_step a inside negated at is))

pub same-Binary : (a b : AstExpr) (op : Op) (left right : AstExpr) (at : ℕ) (found : Option (Op × AstExpr × AstExpr)) → a ≡ ast.Binary op at left right → found ≡ sides (out-AstExpr b)
    → is_binary op (same left) (same right) found ≡ same a b
unfolding same
same-Binary a b op left right at found is view = ap (is_binary op (same left) (same right)) view ∙ sym (ap (λ f. f b) (fold-Binary (AstExpr → Bool) same_step a op left right at is))

pub and-first : {a : Bool} (b c : Bool) → a ≡ false → (a && b && c) ≡ false
and-first b c first = ap (λ t. t && b && c) first

pub and-second : {a b : Bool} (c : Bool) → a ≡ true → b ≡ false → (a && b && c) ≡ false
and-second {b = b} c first second = ap (λ t. t && b && c) first ∙ ap (λ t. true && t && c) second

pub and-third : {a b : Bool} (c : Bool) → a ≡ true → b ≡ true → (a && b && c) ≡ c
and-third {b = b} c first second = ap (λ t. t && b && c) first ∙ ap (λ t. true && t && c) second
