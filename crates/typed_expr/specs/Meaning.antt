-- What an expression means, once it is known what its names stand for.
use Rattle.std.specs.Prelude.{ℕ, ℤ, Bool, true, false, if◌then◌else◌, List, [], ◌∷◌, ◌++◌, Option, Some, None}
use Rattle.std.specs.List.{position_or_len}
use Rattle.adfs_base.specs.declared.value.Value.{Value}
use Rattle.adfs_base.specs.declared.value.Value.TheVariants as value
use Rattle.pgql_tree.specs.declared.ast.AstExpr.{AstExpr}
use Rattle.pgql_tree.specs.declared.ast.AstExpr.TheOpen.{AstExpr-F}
use Rattle.pgql_tree.specs.declared.ast.AstExpr.TheFolds.{fold-AstExpr}
use Rattle.pgql_tree.specs.declared.ast.Op.{Op}
use Rattle.pgql_tree.specs.declared.ast.Op.TheVariants as op
use Rattle.value_text.specs.Dates.{date_cell}
use Rattle.value_text.specs.Texts.{number_of}
use Rattle.typed_query.specs.declared.expr.Expr.{Expr}
use Rattle.typed_query.specs.declared.expr.Expr.TheVariants as expr
use Rattle.typed_query.specs.declared.expr.Expr.TheOpen.{Expr-F}
use Rattle.typed_query.specs.declared.expr.Expr.TheFolds.{para-Expr}
use Rattle.typed_query.specs.declared.query.Capture.{Capture}
use Rattle.typed_query.specs.declared.query.What.TheVariants as what
use Rattle.pattern_scope.specs.declared.scope.Declared.{Declared}
use Rattle.pattern_scope.specs.Names.{variable_of}
use Rattle.graph_tables.specs.Properties.{SchemaLists}
use Rattle.typed_expr.specs.Uses.{property_use, same_use, use_of}

-- the captured value of a use; null where there is none
abbrev pub captured : List Capture → Option Capture → Expr
captured captures None = expr.Constant value.Null
captured captures (Some use') = expr.Captured (position_or_len (same_use use') captures)

abbrev pub date_value : Option ℤ → Value
date_value None = value.Null
date_value (Some day) = value.Date day

abbrev pub meant_of : SchemaLists → List Declared → List Capture → List (List ℕ) → AstExpr-F Expr → Expr
meant_of schema variables captures texts (AstExpr-F.Int number at) = expr.Constant (value.Int number)
meant_of schema variables captures texts (AstExpr-F.Text content at) = expr.Constant (value.Text (number_of texts content))
meant_of schema variables captures texts (AstExpr-F.Date content at) = expr.Constant (date_value (date_cell content))
meant_of schema variables captures texts (AstExpr-F.Bool truth at) = expr.Constant (value.Bool truth)
meant_of schema variables captures texts (AstExpr-F.Name at name) = expr.Constant value.Null
meant_of schema variables captures texts (AstExpr-F.Property at variable property) = captured captures (property_use schema property (variable_of variables variable))
meant_of schema variables captures texts (AstExpr-F.Id variable at) = captured captures (use_of what.Id (variable_of variables variable.name))
meant_of schema variables captures texts (AstExpr-F.Label variable at) = captured captures (use_of what.Label (variable_of variables variable.name))
meant_of schema variables captures texts (AstExpr-F.Not inside at) = expr.Not inside
meant_of schema variables captures texts (AstExpr-F.Neg inside at) = expr.Neg inside
meant_of schema variables captures texts (AstExpr-F.IsNull inside negated at) = expr.IsNull inside negated
meant_of schema variables captures texts (AstExpr-F.Binary o at left right) = expr.Binary o left right

-- what an expression means
unfoldable pub meant : SchemaLists → List Declared → List Capture → List (List ℕ) → AstExpr → Expr
meant schema variables captures texts = fold-AstExpr Expr (meant_of schema variables captures texts)

abbrev pub is_and : Op → Bool
is_and op.And = true
is_and other = false

abbrev pub conjuncts_of : Expr-F (Expr × List Expr) → List Expr
conjuncts_of (Expr-F.Constant a) = expr.Constant a ∷ []
conjuncts_of (Expr-F.Captured i) = expr.Captured i ∷ []
conjuncts_of (Expr-F.Not a) = expr.Not a.0 ∷ []
conjuncts_of (Expr-F.Neg a) = expr.Neg a.0 ∷ []
conjuncts_of (Expr-F.IsNull a negated) = expr.IsNull a.0 negated ∷ []
conjuncts_of (Expr-F.Binary o a b) = if is_and o then a.1 ++ b.1 else expr.Binary o a.0 b.0 ∷ []

-- the parts of a condition at its top-level ANDs, on both sides
unfoldable pub conjuncts : Expr → List Expr
conjuncts = para-Expr (List Expr) conjuncts_of
