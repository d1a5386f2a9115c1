-- The text literals of each kind of expression.
use Rattle.std.proofs.Common.{◌≡◌, ℕ, ℤ, Bool, List, [], ◌∷◌, ◌++◌, length, ◌+◌, ap, ◌∙◌}
use Rattle.std.specs.Prelude.{flat_map}
use Rattle.std.proofs.lemmas.List.{length-append}
use Rattle.pgql_tree.specs.declared.ast.Ast.{Ast}
use Rattle.pgql_tree.specs.declared.ast.Op.{Op}
use Rattle.pgql_tree.specs.declared.ast.Placed.{Placed}
use Rattle.pgql_tree.specs.declared.ast.AstExpr.{AstExpr}
use Rattle.pgql_tree.specs.declared.ast.AstExpr.TheVariants as ast
use Rattle.pgql_tree.specs.Literals.{condition_literals, item_literals, key_literals, literals, literals_of, query_literals}
use Rattle.literal_texts.proofs.AstFolds.{fold-Int, fold-Text, fold-Date, fold-Bool, fold-Name, fold-Property, fold-Id, fold-Label, fold-Not, fold-Neg, fold-IsNull, fold-Binary}

pub literals-Int : (whole : AstExpr) (number : ℤ) (at : ℕ) → whole ≡ ast.Int number at → literals whole ≡ []
unfolding literals
literals-Int whole number at is = fold-Int (List (List ℕ)) literals_of whole number at is

pub literals-Text : (whole : AstExpr) (content : List ℕ) (at : ℕ) → whole ≡ ast.Text content at → literals whole ≡ content ∷ []
unfolding literals
literals-Text whole content at is = fold-Text (List (List ℕ)) literals_of whole content at is

pub literals-Date : (whole : AstExpr) (content : List ℕ) (at : ℕ) → whole ≡ ast.Date content at → literals whole ≡ []
unfolding literals
literals-Date whole content at is = fold-Date (List (List ℕ)) literals_of whole content at is

pub literals-Bool : (whole : AstExpr) (truth : Bool) (at : ℕ) → whole ≡ ast.Bool truth at → literals whole ≡ []
unfolding literals
literals-Bool whole truth at is = fold-Bool (List (List ℕ)) literals_of whole truth at is

pub literals-Name : (whole : AstExpr) (name : List ℕ) (at : ℕ) → whole ≡ ast.Name at name → literals whole ≡ []
unfolding literals
literals-Name whole name at is = fold-Name (List (List ℕ)) literals_of whole name at is

pub literals-Property : (whole : AstExpr) (variable property : List ℕ) (at : ℕ) → whole ≡ ast.Property at variable property → literals whole ≡ []
unfolding literals
literals-Property whole variable property at is = fold-Property (List (List ℕ)) literals_of whole variable property at is

pub literals-Id : (whole : AstExpr) (variable : Placed) (at : ℕ) → whole ≡ ast.Id variable at → literals whole ≡ []
unfolding literals
literals-Id whole variable at is = fold-Id (List (List ℕ)) literals_of whole variable at is

pub literals-Label : (whole : AstExpr) (variable : Placed) (at : ℕ) → whole ≡ ast.Label variable at → literals whole ≡ []
unfolding literals
literals-Label whole variable at is = fold-Label (List (List ℕ)) literals_of whole variable at is

pub literals-Not : (whole : AstExpr) (inside : AstExpr) (at : ℕ) → whole ≡ ast.Not inside at → literals whole ≡ literals inside
unfolding literals
literals-Not whole inside at is = fold-Not (List (List ℕ)) literals_of whole inside at is

pub literals-Neg : (whole : AstExpr) (inside : AstExpr) (at : ℕ) → whole ≡ ast.Neg inside at → literals whole ≡ literals inside
unfolding literals
literals-Neg whole inside at is = fold-Neg (List (List ℕ)) literals_of whole inside at is

pub literals-IsNull : (whole : AstExpr) (inside : AstExpr) (negated : Bool) (at : ℕ) → whole ≡ ast.IsNull inside negated at → literals whole ≡ literals inside
unfolding literals
literals-IsNull whole inside negated at is = fold-IsNull (List (List ℕ)) literals_of whole inside negated at is

pub literals-Binary : (whole : AstExpr) (op : Op) (left right : AstExpr) (at : ℕ) → whole ≡ ast.Binary op at left right → literals whole ≡ literals left ++ literals right
unfolding literals
literals-Binary whole op left right at is = fold-Binary (List (List ℕ)) literals_of whole op left right at is

-- and of a query
pub length-query : (q : Ast) → length (query_literals q) ≡ length (flat_map item_literals q.items) + (length (condition_literals q.condition) + length (flat_map key_literals q.keys))
length-query q =
    length-append (flat_map item_literals q.items) (condition_literals q.condition ++ flat_map key_literals q.keys)
    ∙ ap (λ n. length (flat_map item_literals q.items) + n) (length-append (condition_literals q.condition) (flat_map key_literals q.keys))
