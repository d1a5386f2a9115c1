-- What an expression uses: variables, and the texts of its literals, each in the order of the text.
use Rattle.std.specs.Prelude.{ℕ, ◌+◌, Bool, ◌==◌, ◌&&◌, if◌then◌else◌, List, [], ◌∷◌, ◌++◌, Option, Some, None}
use Rattle.std.specs.List.{list_any, cons_option}
use Rattle.adfs_base.specs.declared.value.Kind.{Kind}
use Rattle.pgql_tree.specs.declared.ast.AstExpr.{AstExpr}
use Rattle.pgql_tree.specs.declared.ast.AstExpr.TheOpen.{AstExpr-F}
use Rattle.pgql_tree.specs.declared.ast.AstExpr.TheFolds.{fold-AstExpr}
pub use Rattle.pgql_tree.specs.Literals.{literals_of}
unfoldable pub use Rattle.pgql_tree.specs.Literals.{literals}
use Rattle.typed_query.specs.declared.query.Capture.{Capture}
use Rattle.typed_query.specs.declared.query.What.{What}
use Rattle.typed_query.specs.declared.query.What.TheVariants as what
use Rattle.pattern_scope.specs.declared.scope.Declared.{Declared}
use Rattle.typed_expr.specs.Kinds.{property_in}
use Rattle.pattern_scope.specs.Names.{variable_of}
use Rattle.graph_tables.specs.Properties.{SchemaLists}

-- what is used of a variable, as a number: its key, its label, or the property of a number
abbrev pub part_of : What → ℕ
part_of what.Id = 0
part_of what.Label = 1
part_of (what.Property number kind) = number + 2

-- the same of one variable
abbrev pub same_use : Capture → Capture → Bool
same_use a b = (a.variable == b.variable) && (part_of a.what == part_of b.what)

-- `id(x)` and `label(x)`, where x is a variable
abbrev pub use_of : What → Option (ℕ × Bool) → Option Capture
use_of what None = None
use_of what (Some variable) = Some (record { variable = variable.0; what = what })

abbrev pub property_of_variable : ℕ → Option (ℕ × Kind) → Option Capture
property_of_variable variable None = None
property_of_variable variable (Some property) = Some (record { variable = variable; what = what.Property property.0 property.1 })

-- `x.p`, where x is a variable that has p
abbrev pub property_use : SchemaLists → List ℕ → Option (ℕ × Bool) → Option Capture
property_use schema property None = None
property_use schema property (Some variable) = property_of_variable variable.0 (property_in schema variable.1 property)

abbrev pub uses_of : SchemaLists → List Declared → AstExpr-F (List Capture) → List Capture
uses_of schema variables (AstExpr-F.Int number at) = []
uses_of schema variables (AstExpr-F.Text content at) = []
uses_of schema variables (AstExpr-F.Date content at) = []
uses_of schema variables (AstExpr-F.Bool truth at) = []
uses_of schema variables (AstExpr-F.Name at name) = []
uses_of schema variables (AstExpr-F.Property at variable property) = cons_option (property_use schema property (variable_of variables variable)) []
uses_of schema variables (AstExpr-F.Id variable at) = cons_option (use_of what.Id (variable_of variables variable.name)) []
uses_of schema variables (AstExpr-F.Label variable at) = cons_option (use_of what.Label (variable_of variables variable.name)) []
uses_of schema variables (AstExpr-F.Not inside at) = inside
uses_of schema variables (AstExpr-F.Neg inside at) = inside
uses_of schema variables (AstExpr-F.IsNull inside negated at) = inside
uses_of schema variables (AstExpr-F.Binary op at left right) = left ++ right

-- its uses of variables
unfoldable pub uses : SchemaLists → List Declared → AstExpr → List Capture
uses schema variables = fold-AstExpr (List Capture) (uses_of schema variables)

-- the captures with a use among them
abbrev pub with_use : List Capture → Capture → List Capture
with_use captures use' = if list_any (same_use use') captures then captures else captures ++ use' ∷ []
