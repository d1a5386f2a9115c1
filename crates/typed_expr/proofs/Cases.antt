-- What the definitions by cases say of each kind of expression.
use Rattle.std.proofs.Common.{◌≡◌, ℕ, ℤ, Bool, List, [], ◌++◌, Option, Some, None}
use Rattle.std.specs.List.{cons_option}
use Rattle.adfs_base.specs.declared.value.Value.TheVariants as value
use Rattle.pgql_tree.specs.declared.ast.Op.{Op}
use Rattle.pgql_tree.specs.declared.ast.Placed.{Placed}
use Rattle.pgql_tree.specs.declared.ast.AstExpr.{AstExpr}
use Rattle.pgql_tree.specs.declared.ast.AstExpr.TheVariants as ast
use Rattle.value_text.specs.Dates.{date_cell}
use Rattle.value_text.specs.Texts.{number_of}
use Rattle.typed_query.specs.declared.expr.Expr.{Expr}
use Rattle.typed_query.specs.declared.expr.Expr.TheVariants as expr
use Rattle.typed_query.specs.declared.query.Capture.{Capture}
use Rattle.typed_query.specs.declared.query.What.TheVariants as what
use Rattle.pattern_scope.specs.declared.scope.Declared.{Declared}
use Rattle.typed_expr.specs.Meaning.{captured, date_value, meant, meant_of}
use Rattle.pattern_scope.specs.Names.{variable_of}
use Rattle.graph_tables.specs.Properties.{SchemaLists}
use Rattle.typed_expr.specs.Typed.{alone, alone_of}
use Rattle.typed_expr.specs.Uses.{property_use, use_of, uses, uses_of}
use Rattle.literal_texts.proofs.AstFolds.{fold-Int, fold-Text, fold-Date, fold-Bool, fold-Name, fold-Property, fold-Id, fold-Label, fold-Not, fold-Neg, fold-IsNull, fold-Binary}

pub uses-Int : (schema : SchemaLists) (variables : List Declared) (whole : AstExpr) (number : ℤ) (at : ℕ) → whole ≡ ast.Int number at → uses schema variables whole ≡ []
unfolding uses
uses-Int schema variables whole number at is = fold-Int (List Capture) (uses_of schema variables) whole number at is

pub uses-Text : (schema : SchemaLists) (variables : List Declared) (whole : AstExpr) (content : List ℕ) (at : ℕ) → whole ≡ ast.Text content at → uses schema variables whole ≡ []
unfolding uses
uses-Text schema variables whole content at is = fold-Text (List Capture) (uses_of schema variables) whole content at is

pub uses-Date : (schema : SchemaLists) (variables : List Declared) (whole : AstExpr) (content : List ℕ) (at : ℕ) → whole ≡ ast.Date content at → uses schema variables whole ≡ []
unfolding uses
uses-Date schema variables whole content at is = fold-Date (List Capture) (uses_of schema variables) whole content at is

pub uses-Bool : (schema : SchemaLists) (variables : List Declared) (whole : AstExpr) (truth : Bool) (at : ℕ) → whole ≡ ast.Bool truth at → uses schema variables whole ≡ []
unfolding uses
uses-Bool schema variables whole truth at is = fold-Bool (List Capture) (uses_of schema variables) whole truth at is

pub uses-Name : (schema : SchemaLists) (variables : List Declared) (whole : AstExpr) (name : List ℕ) (at : ℕ) → whole ≡ ast.Name at name → uses schema variables whole ≡ []
unfolding uses
uses-Name schema variables whole name at is = fold-Name (List Capture) (uses_of schema variables) whole name at is

pub uses-Property : (schema : SchemaLists) (variables : List Declared) (whole : AstExpr) (variable property : List ℕ) (at : ℕ) → whole ≡ ast.Property at variable property → uses schema variables whole ≡ cons_option (property_use schema property (variable_of variables variable)) []
unfolding uses
uses-Property schema variables whole variable property at is = fold-Property (List Capture) (uses_of schema variables) whole variable property at is

pub uses-Id : (schema : SchemaLists) (variables : List Declared) (whole : AstExpr) (variable : Placed) (at : ℕ) → whole ≡ ast.Id variable at → uses schema variables whole ≡ cons_option (use_of what.Id (variable_of variables variable.name)) []
unfolding uses
uses-Id schema variables whole variable at is = fold-Id (List Capture) (uses_of schema variables) whole variable at is

pub uses-Label : (schema : SchemaLists) (variables : List Declared) (whole : AstExpr) (variable : Placed) (at : ℕ) → whole ≡ ast.Label variable at → uses schema variables whole ≡ cons_option (use_of what.Label (variable_of variables variable.name)) []
unfolding uses
uses-Label schema variables whole variable at is = fold-Label (List Capture) (uses_of schema variables) whole variable at is

pub uses-Not : (schema : SchemaLists) (variables : List Declared) (whole : AstExpr) (inside : AstExpr) (at : ℕ) → whole ≡ ast.Not inside at → uses schema variables whole ≡ uses schema variables inside
unfolding uses
uses-Not schema variables whole inside at is = fold-Not (List Capture) (uses_of schema variables) whole inside at is

pub uses-Neg : (schema : SchemaLists) (variables : List Declared) (whole : AstExpr) (inside : AstExpr) (at : ℕ) → whole ≡ ast.Neg inside at → uses schema variables whole ≡ uses schema variables inside
unfolding uses
uses-Neg schema variables whole inside at is = fold-Neg (List Capture) (uses_of schema variables) whole inside at is

pub uses-IsNull : (schema : SchemaLists) (variables : List Declared) (whole : AstExpr) (inside : AstExpr) (negated : Bool) (at : ℕ) → whole ≡ ast.IsNull inside negated at → uses schema variables whole ≡ uses schema variables inside
unfolding uses
uses-IsNull schema variables whole inside negated at is = fold-IsNull (List Capture) (uses_of schema variables) whole inside negated at is

pub uses-Binary : (schema : SchemaLists) (variables : List Declared) (whole : AstExpr) (op : Op) (left right : AstExpr) (at : ℕ) → whole ≡ ast.Binary op at left right → uses schema variables whole ≡ uses schema variables left ++ uses schema variables right
unfolding uses
uses-Binary schema variables whole op left right at is = fold-Binary (List Capture) (uses_of schema variables) whole op left right at is

pub alone-Int : (whole : AstExpr) (number : ℤ) (at : ℕ) → whole ≡ ast.Int number at → alone whole ≡ None
unfolding alone
alone-Int whole number at is = fold-Int (Option (List ℕ)) alone_of whole number at is

pub alone-Text : (whole : AstExpr) (content : List ℕ) (at : ℕ) → whole ≡ ast.Text content at → alone whole ≡ None
unfolding alone
alone-Text whole content at is = fold-Text (Option (List ℕ)) alone_of whole content at is

pub alone-Date : (whole : AstExpr) (content : List ℕ) (at : ℕ) → whole ≡ ast.Date content at → alone whole ≡ None
unfolding alone
alone-Date whole content at is = fold-Date (Option (List ℕ)) alone_of whole content at is

pub alone-Bool : (whole : AstExpr) (truth : Bool) (at : ℕ) → whole ≡ ast.Bool truth at → alone whole ≡ None
unfolding alone
alone-Bool whole truth at is = fold-Bool (Option (List ℕ)) alone_of whole truth at is

pub alone-Name : (whole : AstExpr) (name : List ℕ) (at : ℕ) → whole ≡ ast.Name at name → alone whole ≡ Some name
unfolding alone
alone-Name whole name at is = fold-Name (Option (List ℕ)) alone_of whole name at is

pub alone-Property : (whole : AstExpr) (variable property : List ℕ) (at : ℕ) → whole ≡ ast.Property at variable property → alone whole ≡ None
unfolding alone
alone-Property whole variable property at is = fold-Property (Option (List ℕ)) alone_of whole variable property at is

pub alone-Id : (whole : AstExpr) (variable : Placed) (at : ℕ) → whole ≡ ast.Id variable at → alone whole ≡ None
unfolding alone
alone-Id whole variable at is = fold-Id (Option (List ℕ)) alone_of whole variable at is

pub alone-Label : (whole : AstExpr) (variable : Placed) (at : ℕ) → whole ≡ ast.Label variable at → alone whole ≡ None
unfolding alone
alone-Label whole variable at is = fold-Label (Option (List ℕ)) alone_of whole variable at is

pub alone-Not : (whole : AstExpr) (inside : AstExpr) (at : ℕ) → whole ≡ ast.Not inside at → alone whole ≡ None
unfolding alone
alone-Not whole inside at is = fold-Not (Option (List ℕ)) alone_of whole inside at is

pub alone-Neg : (whole : AstExpr) (inside : AstExpr) (at : ℕ) → whole ≡ ast.Neg inside at → alone whole ≡ None
unfolding alone
alone-Neg whole inside at is = fold-Neg (Option (List ℕ)) alone_of whole inside at is

pub alone-IsNull : (whole : AstExpr) (inside : AstExpr) (negated : Bool) (at : ℕ) → whole ≡ ast.IsNull inside negated at → alone whole ≡ None
unfolding alone
alone-IsNull whole inside negated at is = fold-IsNull (Option (List ℕ)) alone_of whole inside negated at is

pub alone-Binary : (whole : AstExpr) (op : Op) (left right : AstExpr) (at : ℕ) → whole ≡ ast.Binary op at left right → alone whole ≡ None
unfolding alone
alone-Binary whole op left right at is = fold-Binary (Option (List ℕ)) alone_of whole op left right at is

pub meant-Int : (schema : SchemaLists) (variables : List Declared) (captures : List Capture) (texts : List (List ℕ)) (whole : AstExpr) (number : ℤ) (at : ℕ) → whole ≡ ast.Int number at → meant schema variables captures texts whole ≡ expr.Constant (value.Int number)
unfolding meant
meant-Int schema variables captures texts whole number at is = fold-Int Expr (meant_of schema variables captures texts) whole number at is

pub meant-Text : (schema : SchemaLists) (variables : List Declared) (captures : List Capture) (texts : List (List ℕ)) (whole : AstExpr) (content : List ℕ) (at : ℕ) → whole ≡ ast.Text content at → meant schema variables captures texts whole ≡ expr.Constant (value.Text (number_of texts content))
unfolding meant
meant-Text schema variables captures texts whole content at is = fold-Text Expr (meant_of schema variables captures texts) whole content at is

pub meant-Date : (schema : SchemaLists) (variables : List Declared) (captures : List Capture) (texts : List (List ℕ)) (whole : AstExpr) (content : List ℕ) (at : ℕ) → whole ≡ ast.Date content at → meant schema variables captures texts whole ≡ expr.Constant (date_value (date_cell content))
unfolding meant
meant-Date schema variables captures texts whole content at is = fold-Date Expr (meant_of schema variables captures texts) whole content at is

pub meant-Bool : (schema : SchemaLists) (variables : List Declared) (captures : List Capture) (texts : List (List ℕ)) (whole : AstExpr) (truth : Bool) (at : ℕ) → whole ≡ ast.Bool truth at → meant schema variables captures texts whole ≡ expr.Constant (value.Bool truth)
unfolding meant
meant-Bool schema variables captures texts whole truth at is = fold-Bool Expr (meant_of schema variables captures texts) whole truth at is

pub meant-Name : (schema : SchemaLists) (variables : List Declared) (captures : List Capture) (texts : List (List ℕ)) (whole : AstExpr) (name : List ℕ) (at : ℕ) → whole ≡ ast.Name at name → meant schema variables captures texts whole ≡ expr.Constant value.Null
unfolding meant
meant-Name schema variables captures texts whole name at is = fold-Name Expr (meant_of schema variables captures texts) whole name at is

pub meant-Property : (schema : SchemaLists) (variables : List Declared) (captures : List Capture) (texts : List (List ℕ)) (whole : AstExpr) (variable property : List ℕ) (at : ℕ)
    → whole ≡ ast.Property at variable property
    → meant schema variables captures texts whole ≡ captured captures (property_use schema property (variable_of variables variable))
unfolding meant
meant-Property schema variables captures texts whole variable property at is = fold-Property Expr (meant_of schema variables captures texts) whole variable property at is

pub meant-Id : (schema : SchemaLists) (variables : List Declared) (captures : List Capture) (texts : List (List ℕ)) (whole : AstExpr) (variable : Placed) (at : ℕ)
    → whole ≡ ast.Id variable at → meant schema variables captures texts whole ≡ captured captures (use_of what.Id (variable_of variables variable.name))
unfolding meant
meant-Id schema variables captures texts whole variable at is = fold-Id Expr (meant_of schema variables captures texts) whole variable at is

pub meant-Label : (schema : SchemaLists) (variables : List Declared) (captures : List Capture) (texts : List (List ℕ)) (whole : AstExpr) (variable : Placed) (at : ℕ)
    → whole ≡ ast.Label variable at
    → meant schema variables captures texts whole ≡ captured captures (use_of what.Label (variable_of variables variable.name))
unfolding meant
meant-Label schema variables captures texts whole variable at is = fold-Label Expr (meant_of schema variables captures texts) whole variable at is

pub meant-Not : (schema : SchemaLists) (variables : List Declared) (captures : List Capture) (texts : List (List ℕ)) (whole : AstExpr) (inside : AstExpr) (at : ℕ) → whole ≡ ast.Not inside at → meant schema variables captures texts whole ≡ expr.Not (meant schema variables captures texts inside)
unfolding meant
meant-Not schema variables captures texts whole inside at is = fold-Not Expr (meant_of schema variables captures texts) whole inside at is

pub meant-Neg : (schema : SchemaLists) (variables : List Declared) (captures : List Capture) (texts : List (List ℕ)) (whole : AstExpr) (inside : AstExpr) (at : ℕ) → whole ≡ ast.Neg inside at → meant schema variables captures texts whole ≡ expr.Neg (meant schema variables captures texts inside)
unfolding meant
meant-Neg schema variables captures texts whole inside at is = fold-Neg Expr (meant_of schema variables captures texts) whole inside at is

pub meant-IsNull : (schema : SchemaLists) (variables : List Declared) (captures : List Capture) (texts : List (List ℕ)) (whole : AstExpr) (inside : AstExpr) (negated : Bool) (at : ℕ)
    → whole ≡ ast.IsNull inside negated at
    → meant schema variables captures texts whole ≡ expr.IsNull (meant schema variables captures texts inside) negated
unfolding meant
meant-IsNull schema variables captures texts whole inside negated at is = fold-IsNull Expr (meant_of schema variables captures texts) whole inside negated at is

pub meant-Binary : (schema : SchemaLists) (variables : List Declared) (captures : List Capture) (texts : List (List ℕ)) (whole : AstExpr) (op : Op) (left right : AstExpr) (at : ℕ)
    → whole ≡ ast.Binary op at left right
    → meant schema variables captures texts whole ≡ expr.Binary op (meant schema variables captures texts left) (meant schema variables captures texts right)
unfolding meant
meant-Binary schema variables captures texts whole op left right at is = fold-Binary Expr (meant_of schema variables captures texts) whole op left right at is
