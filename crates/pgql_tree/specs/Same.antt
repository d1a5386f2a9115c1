-- Trees apart from their places.
use Rattle.std.specs.Prelude.{◌≡◌, map}
use Rattle.std.specs.Option.{option_map}
use Rattle.pgql_tree.specs.declared.ast.Placed.{Placed}
use Rattle.pgql_tree.specs.declared.ast.AstExpr.{AstExpr}
use Rattle.pgql_tree.specs.declared.ast.AstExpr.TheVariants as e
use Rattle.pgql_tree.specs.declared.ast.AstExpr.TheOpen.{AstExpr-F}
use Rattle.pgql_tree.specs.declared.ast.AstExpr.TheFolds.{fold-AstExpr}
use Rattle.pgql_tree.specs.declared.ast.Item.{Item}
use Rattle.pgql_tree.specs.declared.ast.VertexPat.{VertexPat}
use Rattle.pgql_tree.specs.declared.ast.EdgePat.{EdgePat}
use Rattle.pgql_tree.specs.declared.ast.Path.{Path}
use Rattle.pgql_tree.specs.declared.ast.Key.{Key}
use Rattle.pgql_tree.specs.declared.ast.Ast.{Ast}

-- each place is 0
abbrev pub bare_name : Placed → Placed
bare_name p = record { name = p.name; at = 0 }

abbrev pub bare_step : AstExpr-F AstExpr → AstExpr
bare_step (AstExpr-F.Int number at) = e.Int number 0
bare_step (AstExpr-F.Text content at) = e.Text content 0
bare_step (AstExpr-F.Date content at) = e.Date content 0
bare_step (AstExpr-F.Bool value at) = e.Bool value 0
bare_step (AstExpr-F.Name at name) = e.Name 0 name
bare_step (AstExpr-F.Property at variable property) = e.Property 0 variable property
bare_step (AstExpr-F.Id variable at) = e.Id (bare_name variable) 0
bare_step (AstExpr-F.Label variable at) = e.Label (bare_name variable) 0
bare_step (AstExpr-F.Not x at) = e.Not x 0
bare_step (AstExpr-F.Neg x at) = e.Neg x 0
bare_step (AstExpr-F.IsNull x negated at) = e.IsNull x negated 0
bare_step (AstExpr-F.Binary o at l r) = e.Binary o 0 l r

unfoldable pub bare : AstExpr → AstExpr
bare = fold-AstExpr AstExpr bare_step

abbrev pub bare_item : Item → Item
bare_item item = record { expr = bare item.expr; name = option_map bare_name item.name; at = 0 }

abbrev pub bare_vertex : VertexPat → VertexPat
bare_vertex v = record { name = option_map bare_name v.name; labels = v.labels; at = 0 }

abbrev pub bare_edge : EdgePat → EdgePat
bare_edge e = record { name = option_map bare_name e.name; labels = e.labels; out = e.out; at = 0 }

abbrev pub bare_pair : EdgePat × VertexPat → EdgePat × VertexPat
bare_pair step = (bare_edge step.0, bare_vertex step.1)

abbrev pub bare_path : Path → Path
bare_path p = record { first = bare_vertex p.first; steps = map bare_pair p.steps }

abbrev pub bare_key : Key → Key
bare_key key = record { expr = bare key.expr; down = key.down; at = 0 }

abbrev pub bare_query : Ast → Ast
bare_query q = record {
  distinct = q.distinct;
  items = map bare_item q.items;
  paths = map bare_path q.paths;
  condition = option_map bare q.condition;
  keys = map bare_key q.keys;
  limit = q.limit;
}

-- equal apart from places
abbrev pub AreSame : Ast → Ast → Type 0
AreSame a b = bare_query a ≡ bare_query b

-- DISTINCT, the items and the paths are equal apart from places
abbrev pub HaveSameHead : Ast → Ast → Type 0
HaveSameHead a b = (a.distinct ≡ b.distinct) × (map bare_item a.items ≡ map bare_item b.items) × (map bare_path a.paths ≡ map bare_path b.paths)

-- the condition, the keys and the limit are equal apart from places
abbrev pub HaveSameTail : Ast → Ast → Type 0
HaveSameTail a b = (option_map bare a.condition ≡ option_map bare b.condition) × (map bare_key a.keys ≡ map bare_key b.keys) × (a.limit ≡ b.limit)
