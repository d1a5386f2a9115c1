-- The text literals of a tree, in the order of the text.
use Rattle.std.specs.Prelude.{ℕ, List, [], ◌∷◌, ◌++◌, flat_map, Option, Some, None}
use Rattle.pgql_tree.specs.declared.ast.AstExpr.{AstExpr}
use Rattle.pgql_tree.specs.declared.ast.AstExpr.TheOpen.{AstExpr-F}
use Rattle.pgql_tree.specs.declared.ast.AstExpr.TheFolds.{fold-AstExpr}
use Rattle.pgql_tree.specs.declared.ast.Item.{Item}
use Rattle.pgql_tree.specs.declared.ast.Key.{Key}
use Rattle.pgql_tree.specs.declared.ast.Ast.{Ast}

abbrev pub literals_of : AstExpr-F (List (List ℕ)) → List (List ℕ)
literals_of (AstExpr-F.Int number at) = []
literals_of (AstExpr-F.Text content at) = content ∷ []
literals_of (AstExpr-F.Date content at) = []
literals_of (AstExpr-F.Bool truth at) = []
literals_of (AstExpr-F.Name at name) = []
literals_of (AstExpr-F.Property at variable property) = []
literals_of (AstExpr-F.Id variable at) = []
literals_of (AstExpr-F.Label variable at) = []
literals_of (AstExpr-F.Not inside at) = inside
literals_of (AstExpr-F.Neg inside at) = inside
literals_of (AstExpr-F.IsNull inside negated at) = inside
literals_of (AstExpr-F.Binary op at left right) = left ++ right

-- the contents of an expression's text literals
unfoldable pub literals : AstExpr → List (List ℕ)
literals = fold-AstExpr (List (List ℕ)) literals_of

abbrev pub condition_literals : Option AstExpr → List (List ℕ)
condition_literals None = []
condition_literals (Some x) = literals x

abbrev pub item_literals : Item → List (List ℕ)
item_literals item = literals item.expr

abbrev pub key_literals : Key → List (List ℕ)
key_literals key = literals key.expr

-- those of a query: of its items, its condition and its keys
abbrev pub query_literals : Ast → List (List ℕ)
query_literals q = flat_map item_literals q.items ++ (condition_literals q.condition ++ flat_map key_literals q.keys)
