-- Reading queries.
use Rattle.std.specs.Prelude.{ℕ, Bool, true, false, List, [], Option}
use Rattle.pgql_lexemes.specs.declared.kind.Kind.{Kind}
use Rattle.pgql_lexemes.specs.declared.kind.Kind.TheVariants as k
use Rattle.pgql_tree.specs.declared.ast.AstExpr.{AstExpr}
use Rattle.pgql_tree.specs.declared.ast.Item.{Item}
use Rattle.pgql_tree.specs.declared.ast.Path.{Path}
use Rattle.pgql_tree.specs.declared.ast.Key.{Key}
use Rattle.pgql_tree.specs.declared.ast.Ast.{Ast}
use Rattle.pgql_syntax.specs.declared.query.Head.{Head}
use Rattle.pgql_syntax.specs.declared.query.Tail.{Tail}
use Rattle.pgql_tree.specs.declared.level.Level.TheVariants.{Or}
use Rattle.pgql_lexemes.specs.Lexemes.{value_of}
use Rattle.pgql_syntax.specs.Grammar.{at_of}
use Rattle.pgql_expr.specs.Reading.{Parser, ◌>>=◌, ◌>>◌, pure, refuse, unexpected, by_next, take_token, expect, same_kind, read_expr}
use Rattle.pgql_lexemes.specs.Lists.{choose, separated, optional}
use Rattle.pgql_syntax.specs.Patterns.{read_placed, read_path}

unfoldable pub read_whole_expr : ℕ → Parser AstExpr
read_whole_expr most = read_expr most Or >>= λ x. pure x.expr

unfoldable pub read_item : ℕ → Parser Item
read_item most = do
  x ← read_whole_expr most
  name ← optional read_placed k.As
  pure (record { expr = x; name = name; at = at_of x })

abbrev pub direction_by : Kind → Parser Bool
direction_by k.Asc = take_token >> pure false
direction_by k.Desc = take_token >> pure true
direction_by kind = pure false

unfoldable pub read_direction : Parser Bool
read_direction = by_next (pure false) (λ t. direction_by t.kind)

unfoldable pub read_key : ℕ → Parser Key
read_key most = do
  x ← read_whole_expr most
  down ← read_direction
  pure (record { expr = x; down = down; at = at_of x })

unfoldable pub read_distinct : Parser Bool
read_distinct = by_next (pure false) (λ t. choose (take_token >> pure true) (pure false) (same_kind t.kind k.Distinct))

unfoldable pub read_keys : ℕ → Parser (List Key)
read_keys most = by_next (pure []) (λ t. choose (take_token >> (expect k.By >> separated (read_key most) k.Comma)) (pure []) (same_kind t.kind k.Order))

unfoldable pub read_number : Parser ℕ
read_number = expect k.Number >>= λ t. pure (value_of t)

unfoldable pub read_selection : ℕ → Parser (Bool × List Item)
read_selection most = do
  expect k.Select
  only ← read_distinct
  items ← separated (read_item most) k.Comma
  pure (only, items)

unfoldable pub read_pattern : Parser (List Path)
read_pattern = expect k.Match >> separated read_path k.Comma

-- the order keys and the limit
unfoldable pub read_order : ℕ → Parser (List Key × Option ℕ)
read_order most = do
  keys ← read_keys most
  limit ← optional read_number k.Limit
  pure (keys, limit)

unfoldable pub read_tail : ℕ → Parser Tail
read_tail most = do
  condition ← optional (read_whole_expr most) k.Where
  keys ← read_keys most
  limit ← optional read_number k.Limit
  pure (record { condition = condition; keys = keys; limit = limit })

abbrev pub whole_of : Bool × List Item → List Path → Tail → Ast
whole_of selected paths t = record { distinct = selected.0; items = selected.1; paths = paths; condition = t.condition; keys = t.keys; limit = t.limit }

-- what stands before the condition
unfoldable pub read_head : ℕ → Parser Head
read_head most = do
  selected ← read_selection most
  paths ← read_pattern
  pure (record { distinct = selected.0; items = selected.1; paths = paths })

abbrev pub query_with : Head → Tail → Ast
query_with head tail = record {
  distinct = head.distinct;
  items = head.items;
  paths = head.paths;
  condition = tail.condition;
  keys = tail.keys;
  limit = tail.limit;
}

unfoldable pub read_query : ℕ → Parser Ast
read_query most = do
  selected ← read_selection most
  paths ← read_pattern
  t ← read_tail most
  pure (whole_of selected paths t)

abbrev pub finished : Parser (Unit {0})
finished = by_next (pure tt) (λ t. refuse unexpected)

-- a query and nothing after it
unfoldable pub read_whole : ℕ → Parser Ast
read_whole most = do
  q ← read_query most
  finished
  pure q
