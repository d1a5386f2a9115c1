-- How a tree is written.
use Rattle.std.specs.Prelude.{ℕ, Bool, true, false, nat_lt, ◌==◌, if◌then◌else◌, List, [], ◌∷◌, ◌++◌, flat_map, codes, Option, Some, None}
use Rattle.std.specs.Fmt.{decimal, signed_decimal}
use Rattle.pgql_tree.specs.declared.ast.Op.{Op}
use Rattle.pgql_tree.specs.declared.ast.Op.TheVariants as op
use Rattle.pgql_tree.specs.declared.ast.Placed.{Placed}
use Rattle.pgql_tree.specs.declared.ast.AstExpr.{AstExpr, out-AstExpr}
use Rattle.pgql_tree.specs.declared.ast.AstExpr.TheOpen.{AstExpr-F}
use Rattle.pgql_tree.specs.declared.ast.AstExpr.TheFolds.{fold-AstExpr}
use Rattle.pgql_tree.specs.declared.ast.Item.{Item}
use Rattle.pgql_tree.specs.declared.ast.VertexPat.{VertexPat}
use Rattle.pgql_tree.specs.declared.ast.EdgePat.{EdgePat}
use Rattle.pgql_tree.specs.declared.ast.Path.{Path}
use Rattle.pgql_tree.specs.declared.ast.Key.{Key}
use Rattle.pgql_tree.specs.declared.ast.Ast.{Ast}
use Rattle.pgql_tree.specs.declared.level.Level.{Level}
use Rattle.pgql_tree.specs.declared.level.Level.TheVariants.{Or, And, Not, Test, Sum, Product, Sign, Primary}
use Rattle.pgql_tree.specs.Levels.{tighter}

-- ---- expressions

-- how tightly an operator binds
abbrev pub level_of : Op → Level
level_of op.Or = Or
level_of op.And = And
level_of op.Add = Sum
level_of op.Subtract = Sum
level_of op.Multiply = Product
level_of op.Divide = Product
level_of op.Remainder = Product
level_of comparison = Test

-- what the left side of an operator is: chains group to the left, comparisons do not group
abbrev pub left_of : Op → Level
left_of op.Or = Or
left_of op.And = And
left_of op.Add = Sum
left_of op.Subtract = Sum
left_of op.Multiply = Product
left_of op.Divide = Product
left_of op.Remainder = Product
left_of comparison = Sum

-- an operator with a space on either side
abbrev pub sign_of : Op → List ℕ
sign_of op.Or = codes " OR "
sign_of op.And = codes " AND "
sign_of op.Equal = codes " = "
sign_of op.Unequal = codes " <> "
sign_of op.Less = codes " < "
sign_of op.LessEqual = codes " <= "
sign_of op.Greater = codes " > "
sign_of op.GreaterEqual = codes " >= "
sign_of op.Add = codes " + "
sign_of op.Subtract = codes " - "
sign_of op.Multiply = codes " * "
sign_of op.Divide = codes " / "
sign_of op.Remainder = codes " % "

abbrev pub rank : Level → ℕ
rank Or = 1
rank And = 2
rank Not = 3
rank Test = 4
rank Sum = 5
rank Product = 6
rank Sign = 7
rank Primary = 8

-- whether the second level binds less tightly than the first
abbrev pub is_looser : Level → Level → Bool
is_looser place own = nat_lt (rank own) (rank place)

-- in parentheses, where that is so
abbrev pub wrapped_by : Bool → List ℕ → List ℕ
wrapped_by true text = codes "(" ++ (text ++ codes ")")
wrapped_by false text = text

abbrev pub wrapped : Level → Level → List ℕ → List ℕ
wrapped place own text = wrapped_by (is_looser place own) text

abbrev pub doubled : ℕ → List ℕ
doubled byte = if byte == 39 then 39 ∷ 39 ∷ [] else byte ∷ []

-- between quotes, each inner quote doubled
abbrev pub quoted : List ℕ → List ℕ
quoted content = codes "'" ++ (flat_map doubled content ++ codes "'")

abbrev pub truth : Bool → List ℕ
truth true = codes "TRUE"
truth false = codes "FALSE"

abbrev pub null_test : Bool → List ℕ
null_test true = codes " IS NOT NULL"
null_test false = codes " IS NULL"

abbrev pub spelled_step : AstExpr-F (Level → List ℕ) → Level → List ℕ
spelled_step (AstExpr-F.Int number at) place = signed_decimal number
spelled_step (AstExpr-F.Text content at) place = quoted content
spelled_step (AstExpr-F.Date content at) place = codes "DATE " ++ quoted content
spelled_step (AstExpr-F.Bool value at) place = truth value
spelled_step (AstExpr-F.Name at name) place = name
spelled_step (AstExpr-F.Property at variable property) place = variable ++ (codes "." ++ property)
spelled_step (AstExpr-F.Id variable at) place = codes "id(" ++ (variable.name ++ codes ")")
spelled_step (AstExpr-F.Label variable at) place = codes "label(" ++ (variable.name ++ codes ")")
spelled_step (AstExpr-F.Not x at) place = wrapped place Not (codes "NOT " ++ x Not)
spelled_step (AstExpr-F.Neg x at) place = wrapped place Sign (codes "-" ++ x Sign)
spelled_step (AstExpr-F.IsNull x negated at) place = wrapped place Test (x Sum ++ null_test negated)
spelled_step (AstExpr-F.Binary o at l r) place = wrapped place (level_of o) (l (left_of o) ++ (sign_of o ++ r (tighter (level_of o))))

-- an expression at a place that needs this level
unfoldable pub spelled : AstExpr → Level → List ℕ
spelled = fold-AstExpr (Level → List ℕ) spelled_step

abbrev pub own_by : AstExpr-F AstExpr → Level
own_by (AstExpr-F.Not x at) = Not
own_by (AstExpr-F.Neg x at) = Sign
own_by (AstExpr-F.IsNull x negated at) = Test
own_by (AstExpr-F.Binary o at l r) = level_of o
own_by leaf = Primary

-- how tightly an expression binds
unfoldable pub own_level : AstExpr → Level
own_level x = own_by (out-AstExpr x)

-- ---- patterns

-- what the items are with a text between two
abbrev pub between : {A : Type 0} → List ℕ → (A → List ℕ) → List A → List ℕ
between mark write [] = []
between mark write (x ∷ xs) = write x ++ flat_map (λ y. mark ++ write y) xs

abbrev pub name_or_none : Option Placed → List ℕ
name_or_none None = []
name_or_none (Some p) = p.name

abbrev pub labels_or_none : List (List ℕ) → List ℕ
labels_or_none [] = []
labels_or_none (label ∷ labels) = codes ":" ++ between (codes "|") (λ l. l) (label ∷ labels)

abbrev pub spec_text : Option Placed → List (List ℕ) → List ℕ
spec_text name labels = name_or_none name ++ labels_or_none labels

unfoldable pub vertex_text : VertexPat → List ℕ
vertex_text v = codes "(" ++ (spec_text v.name v.labels ++ codes ")")

abbrev pub opens : Bool → List ℕ
opens true = codes "-["
opens false = codes "<-["

abbrev pub closes : Bool → List ℕ
closes true = codes "]->"
closes false = codes "]-"

abbrev pub arrow_text : Bool → List ℕ
arrow_text true = codes "->"
arrow_text false = codes "<-"

abbrev pub is_bare : Option Placed → List (List ℕ) → Bool
is_bare None [] = true
is_bare name labels = false

-- an edge without name and labels is an arrow
abbrev pub edge_by : Bool → Bool → List ℕ → List ℕ
edge_by true out spec = arrow_text out
edge_by false out spec = opens out ++ (spec ++ closes out)

unfoldable pub edge_text : EdgePat → List ℕ
edge_text e = edge_by (is_bare e.name e.labels) e.out (spec_text e.name e.labels)

abbrev pub step_text : EdgePat × VertexPat → List ℕ
step_text step = edge_text step.0 ++ vertex_text step.1

unfoldable pub path_text : Path → List ℕ
path_text p = vertex_text p.first ++ flat_map step_text p.steps

-- ---- queries

abbrev pub as_name : Option Placed → List ℕ
as_name None = []
as_name (Some p) = codes " AS " ++ p.name

unfoldable pub item_text : Item → List ℕ
item_text item = spelled item.expr Or ++ as_name item.name

abbrev pub direction : Bool → List ℕ
direction true = codes " DESC"
direction false = []

unfoldable pub key_text : Key → List ℕ
key_text key = spelled key.expr Or ++ direction key.down

abbrev pub select_word : Bool → List ℕ
select_word true = codes "SELECT DISTINCT "
select_word false = codes "SELECT "

abbrev pub condition_text : Option AstExpr → List ℕ
condition_text None = []
condition_text (Some x) = codes " WHERE " ++ spelled x Or

abbrev pub keys_text : List Key → List ℕ
keys_text [] = []
keys_text (key ∷ keys) = codes " ORDER BY " ++ between (codes ", ") key_text (key ∷ keys)

abbrev pub limit_text : Option ℕ → List ℕ
limit_text None = []
limit_text (Some n) = codes " LIMIT " ++ decimal n

abbrev pub selection_text : Ast → List ℕ
selection_text q = select_word q.distinct ++ between (codes ", ") item_text q.items

abbrev pub pattern_text : Ast → List ℕ
pattern_text q = codes " MATCH " ++ between (codes ", ") path_text q.paths

abbrev pub tail_text : Ast → List ℕ
tail_text q = condition_text q.condition ++ (keys_text q.keys ++ limit_text q.limit)

-- the text of a query
unfoldable pub query_text : Ast → List ℕ
query_text q = selection_text q ++ (pattern_text q ++ tail_text q)
