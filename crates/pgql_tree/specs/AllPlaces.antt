-- All places in a tree.
use Rattle.std.specs.Prelude.{ℕ, ◌≤◌, List, [], ◌∷◌, ◌++◌, flat_map, Option, Some, None}
use Rattle.pgql_tree.specs.declared.ast.Placed.{Placed}
use Rattle.pgql_tree.specs.declared.ast.AstExpr.{AstExpr}
use Rattle.pgql_tree.specs.declared.ast.AstExpr.TheOpen.{AstExpr-F}
use Rattle.pgql_tree.specs.declared.ast.AstExpr.TheFolds.{fold-AstExpr}
use Rattle.pgql_tree.specs.declared.ast.Item.{Item}
use Rattle.pgql_tree.specs.declared.ast.VertexPat.{VertexPat}
use Rattle.pgql_tree.specs.declared.ast.EdgePat.{EdgePat}
use Rattle.pgql_tree.specs.declared.ast.Path.{Path}
use Rattle.pgql_tree.specs.declared.ast.Key.{Key}
use Rattle.pgql_tree.specs.declared.ast.Ast.{Ast}

abbrev pub places_of : AstExpr-F (List ℕ) → List ℕ
places_of (AstExpr-F.Int number at) = at ∷ []
places_of (AstExpr-F.Text content at) = at ∷ []
places_of (AstExpr-F.Date content at) = at ∷ []
places_of (AstExpr-F.Bool value at) = at ∷ []
places_of (AstExpr-F.Name at name) = at ∷ []
places_of (AstExpr-F.Property at variable property) = at ∷ []
places_of (AstExpr-F.Id variable at) = at ∷ variable.at ∷ []
places_of (AstExpr-F.Label variable at) = at ∷ variable.at ∷ []
places_of (AstExpr-F.Not inside at) = at ∷ inside
places_of (AstExpr-F.Neg inside at) = at ∷ inside
places_of (AstExpr-F.IsNull inside negated at) = at ∷ inside
places_of (AstExpr-F.Binary op at left right) = at ∷ (left ++ right)

unfoldable pub places : AstExpr → List ℕ
places = fold-AstExpr (List ℕ) places_of

abbrev pub name_places : Option Placed → List ℕ
name_places None = []
name_places (Some p) = p.at ∷ []

abbrev pub item_places : Item → List ℕ
item_places item = item.at ∷ (places item.expr ++ name_places item.name)

abbrev pub vertex_places : VertexPat → List ℕ
vertex_places v = v.at ∷ name_places v.name

abbrev pub edge_places : EdgePat → List ℕ
edge_places e = e.at ∷ name_places e.name

abbrev pub step_places : EdgePat × VertexPat → List ℕ
step_places step = edge_places step.0 ++ vertex_places step.1

abbrev pub path_places : Path → List ℕ
path_places p = vertex_places p.first ++ flat_map step_places p.steps

abbrev pub condition_places : Option AstExpr → List ℕ
condition_places None = []
condition_places (Some x) = places x

abbrev pub key_places : Key → List ℕ
key_places key = key.at ∷ places key.expr

abbrev pub query_places : Ast → List ℕ
query_places q = flat_map item_places q.items ++ (flat_map path_places q.paths ++ (condition_places q.condition ++ flat_map key_places q.keys))

-- the place lies between these two
abbrev pub IsWithin : ℕ → ℕ → ℕ → Type 0
IsWithin from to place = (from ≤ place) × (place ≤ to)
