-- Reading patterns.
use Rattle.std.specs.Prelude.{ℕ, Bool, true, false, List, []}
use Rattle.pgql_lexemes.specs.declared.kind.Kind.{Kind}
use Rattle.pgql_lexemes.specs.declared.kind.Kind.TheVariants as k
use Rattle.pgql_lexemes.specs.Lexemes.{Lexeme}
use Rattle.pgql_tree.specs.declared.ast.Placed.{Placed}
use Rattle.pgql_tree.specs.declared.ast.VertexPat.{VertexPat}
use Rattle.pgql_tree.specs.declared.ast.EdgePat.{EdgePat}
use Rattle.pgql_tree.specs.declared.ast.Path.{Path}
use Rattle.pgql_syntax.specs.declared.pattern.Spec.{Spec}
use Rattle.pgql_syntax.specs.Grammar.{vertex_of, edge_of, arrow}
use Rattle.pgql_expr.specs.Reading.{Parser, ◌>>=◌, ◌>>◌, pure, refuse, unexpected, by_next, take_token, expect, expect_word, same_kind, placed}
use Rattle.pgql_lexemes.specs.Lists.{choose, separated, many, perhaps}

unfoldable pub read_placed : Parser Placed
read_placed = expect k.Name >>= λ t. pure (placed t)

unfoldable pub read_label : Parser (List ℕ)
read_label = expect_word >>= λ t. pure t.bytes

unfoldable pub read_labels : Parser (List (List ℕ))
read_labels = by_next (pure []) (λ t. choose (take_token >> separated read_label k.Bar) (pure []) (same_kind t.kind k.Colon))

unfoldable pub read_spec : Parser Spec
read_spec = do
  name ← perhaps read_placed k.Name
  labels ← read_labels
  pure (record { name = name; labels = labels })

unfoldable pub read_enclosed : Kind → Kind → Parser (Spec × ℕ)
read_enclosed opens closes = do
  o ← expect opens
  s ← read_spec
  expect closes
  pure (s, o.at)

unfoldable pub read_vertex : Parser VertexPat
read_vertex = read_enclosed k.Open k.Close >>= λ s. pure (vertex_of s.0 s.1)

-- `->` after a bracket
abbrev pub read_arrow_end : Parser Lexeme
read_arrow_end = expect k.Minus >> expect k.Greater

-- `[..]->`, after a minus
unfoldable pub read_out : ℕ → Parser EdgePat
read_out at = do
  s ← read_enclosed k.OpenBracket k.CloseBracket
  expect k.Minus
  expect k.Greater
  pure (edge_of true s.0 at)

abbrev pub minus_by : Kind → ℕ → Parser EdgePat
minus_by k.Greater at = take_token >> pure (arrow true at)
minus_by k.OpenBracket at = read_out at
minus_by kind at = refuse unexpected

abbrev pub after_minus : ℕ → Parser EdgePat
after_minus at = by_next (refuse unexpected) (λ t. minus_by t.kind at)

-- `[..]-`, after `<-`
unfoldable pub read_in : ℕ → Parser EdgePat
read_in at = do
  s ← read_enclosed k.OpenBracket k.CloseBracket
  expect k.Minus
  pure (edge_of false s.0 at)

abbrev pub less_by : Kind → ℕ → Parser EdgePat
less_by k.OpenBracket at = read_in at
less_by kind at = pure (arrow false at)

abbrev pub after_less : ℕ → Parser EdgePat
after_less at = by_next (pure (arrow false at)) (λ t. less_by t.kind at)

abbrev pub edge_by : Kind → ℕ → Parser EdgePat
edge_by k.Minus at = take_token >> after_minus at
edge_by k.Less at = take_token >> (expect k.Minus >> after_less at)
edge_by kind at = refuse unexpected

unfoldable pub read_edge : Parser EdgePat
read_edge = by_next (refuse unexpected) (λ t. edge_by t.kind t.at)

unfoldable pub read_step : Parser (EdgePat × VertexPat)
read_step = do
  edge ← read_edge
  v ← read_vertex
  pure (edge, v)

abbrev pub begins_edge : Kind → Bool
begins_edge k.Minus = true
begins_edge k.Less = true
begins_edge kind = false

unfoldable pub read_path : Parser Path
read_path = do
  v ← read_vertex
  steps ← many read_step begins_edge
  pure (record { first = v; steps = steps })
