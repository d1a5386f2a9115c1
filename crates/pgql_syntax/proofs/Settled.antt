-- Reading patterns and queries is steady, also for a greater bound on height.
use Rattle.std.proofs.Common.{◌≡◌, ℕ, ◌≤◌, []}
use Rattle.pgql_lexemes.specs.declared.kind.Kind.{Kind}
use Rattle.pgql_lexemes.specs.declared.kind.Kind.TheVariants as k
use Rattle.pgql_tree.specs.declared.level.Level.TheVariants.{Or}
use Rattle.pgql_expr.specs.Reading.{Refusal, unexpected, deep}
use Rattle.pgql_syntax.specs.Patterns.{read_placed, read_label, read_labels, read_spec, read_enclosed, read_vertex, read_out, minus_by, read_in, less_by, edge_by}
use Rattle.pgql_syntax.specs.Patterns.{read_edge, read_step, begins_edge, read_path}
use Rattle.pgql_syntax.specs.Queries.{read_whole_expr, read_item, direction_by, read_direction, read_key, read_distinct, read_keys, read_number, read_selection}
use Rattle.pgql_syntax.specs.Queries.{read_pattern, read_tail, read_query, read_whole}
use Rattle.pgql_syntax.proofs.Steady.{Steady, Steady-then, Steady-pure, Steady-refuse, Steady-take, Steady-by_next}
use Rattle.pgql_syntax.proofs.Stable.{Steady-expect, Steady-expect_word, expr_steady}
use Rattle.pgql_syntax.proofs.Lists.{Steady-separated}
use Rattle.pgql_syntax.proofs.Many.{Steady-many}
use Rattle.pgql_syntax.proofs.Options.{Steady-optional}
use Rattle.pgql_syntax.proofs.Parts.{Steady-choose, Steady-perhaps}
use Rattle.pgql_syntax.proofs.Paths.{label_shrinks, path_shrinks, step_takes}
use Rattle.pgql_syntax.proofs.Items.{item_shrinks, key_shrinks}

module _ (keeps : Refusal → Type 0) where
  placed_steady : Steady keeps read_placed read_placed
  unfolding read_placed
  placed_steady = Steady-then keeps (Steady-expect keeps k.Name) (λ t. Steady-pure keeps _)

  label_steady : Steady keeps read_label read_label
  unfolding read_label
  label_steady = Steady-then keeps (Steady-expect_word keeps) (λ t. Steady-pure keeps _)

  labels_steady : Steady keeps read_labels read_labels
  unfolding read_labels
  labels_steady = Steady-by_next keeps (Steady-pure keeps []) (λ t. Steady-choose keeps _
      (Steady-then keeps (Steady-take keeps) (λ _. Steady-separated keeps read_label read_label k.Bar label_steady label_shrinks label_shrinks)) (Steady-pure keeps []))

  spec_steady : Steady keeps read_spec read_spec
  unfolding read_spec
  spec_steady = Steady-then keeps (Steady-perhaps keeps read_placed k.Name placed_steady) (λ name. Steady-then keeps labels_steady (λ labels. Steady-pure keeps _))

  enclosed_steady : (opens closes : Kind) → Steady keeps (read_enclosed opens closes) (read_enclosed opens closes)
  unfolding read_enclosed
  enclosed_steady opens closes = Steady-then keeps (Steady-expect keeps opens) (λ o. Steady-then keeps spec_steady (λ s. Steady-then keeps (Steady-expect keeps closes) (λ _. Steady-pure keeps _)))

  vertex_steady : Steady keeps read_vertex read_vertex
  unfolding read_vertex
  vertex_steady = Steady-then keeps (enclosed_steady k.Open k.Close) (λ s. Steady-pure keeps _)

  out_steady : (at : ℕ) → Steady keeps (read_out at) (read_out at)
  unfolding read_out
  out_steady at = Steady-then keeps (enclosed_steady k.OpenBracket k.CloseBracket) (λ s. Steady-then keeps (Steady-expect keeps k.Minus) (λ _. Steady-then keeps (Steady-expect keeps k.Greater) (λ _. Steady-pure keeps _)))

  minus_by_steady : (kind : Kind) (at : ℕ) → Steady keeps (minus_by kind at) (minus_by kind at)
  minus_by_steady k.Greater at = Steady-then keeps (Steady-take keeps) (λ _. Steady-pure keeps _)
  minus_by_steady k.OpenBracket at = out_steady at
  minus_by_steady kind at = Steady-refuse keeps unexpected

  in_steady : (at : ℕ) → Steady keeps (read_in at) (read_in at)
  unfolding read_in
  in_steady at = Steady-then keeps (enclosed_steady k.OpenBracket k.CloseBracket) (λ s. Steady-then keeps (Steady-expect keeps k.Minus) (λ _. Steady-pure keeps _))

  less_by_steady : (kind : Kind) (at : ℕ) → Steady keeps (less_by kind at) (less_by kind at)
  less_by_steady k.OpenBracket at = in_steady at
  less_by_steady kind at = Steady-pure keeps _

  edge_by_steady : (kind : Kind) (at : ℕ) → Steady keeps (edge_by kind at) (edge_by kind at)
  edge_by_steady k.Minus at = Steady-then keeps (Steady-take keeps) (λ _. Steady-by_next keeps (Steady-refuse keeps unexpected) (λ t. minus_by_steady t.kind at))
  edge_by_steady k.Less at = Steady-then keeps (Steady-take keeps) (λ _. Steady-then keeps (Steady-expect keeps k.Minus) (λ _. Steady-by_next keeps (Steady-pure keeps _) (λ t. less_by_steady t.kind at)))
  edge_by_steady kind at = Steady-refuse keeps unexpected

  edge_steady : Steady keeps read_edge read_edge
  unfolding read_edge
  edge_steady = Steady-by_next keeps (Steady-refuse keeps unexpected) (λ t. edge_by_steady t.kind t.at)

  step_steady : Steady keeps read_step read_step
  unfolding read_step
  step_steady = Steady-then keeps edge_steady (λ edge. Steady-then keeps vertex_steady (λ v. Steady-pure keeps _))

  path_steady : Steady keeps read_path read_path
  unfolding read_path
  path_steady = Steady-then keeps vertex_steady (λ v. Steady-then keeps (Steady-many keeps read_step read_step begins_edge step_steady step_takes step_takes) (λ steps. Steady-pure keeps _))

  direction_by_steady : (kind : Kind) → Steady keeps (direction_by kind) (direction_by kind)
  direction_by_steady k.Asc = Steady-then keeps (Steady-take keeps) (λ _. Steady-pure keeps _)
  direction_by_steady k.Desc = Steady-then keeps (Steady-take keeps) (λ _. Steady-pure keeps _)
  direction_by_steady kind = Steady-pure keeps _

  direction_steady : Steady keeps read_direction read_direction
  unfolding read_direction
  direction_steady = Steady-by_next keeps (Steady-pure keeps _) (λ t. direction_by_steady t.kind)

  distinct_steady : Steady keeps read_distinct read_distinct
  unfolding read_distinct
  distinct_steady = Steady-by_next keeps (Steady-pure keeps _) (λ t. Steady-choose keeps _ (Steady-then keeps (Steady-take keeps) (λ _. Steady-pure keeps _)) (Steady-pure keeps _))

  number_steady : Steady keeps read_number read_number
  unfolding read_number
  number_steady = Steady-then keeps (Steady-expect keeps k.Number) (λ t. Steady-pure keeps _)

  pattern_steady : Steady keeps read_pattern read_pattern
  unfolding read_pattern
  pattern_steady = Steady-then keeps (Steady-expect keeps k.Match) (λ _. Steady-separated keeps read_path read_path k.Comma path_steady path_shrinks path_shrinks)

  module _ (m m' : ℕ) (le : m ≤ m') (same : keeps deep → m ≡ m') where
    expr_read_steady : Steady keeps (read_whole_expr m) (read_whole_expr m')
    unfolding read_whole_expr
    expr_read_steady = Steady-then keeps (expr_steady keeps m m' le same Or) (λ x. Steady-pure keeps _)

    item_steady : Steady keeps (read_item m) (read_item m')
    unfolding read_item
    item_steady = Steady-then keeps expr_read_steady (λ x. Steady-then keeps (Steady-optional keeps read_placed read_placed k.As placed_steady) (λ name. Steady-pure keeps _))

    key_steady : Steady keeps (read_key m) (read_key m')
    unfolding read_key
    key_steady = Steady-then keeps expr_read_steady (λ x. Steady-then keeps direction_steady (λ down. Steady-pure keeps _))

    keys_steady : Steady keeps (read_keys m) (read_keys m')
    unfolding read_keys
    keys_steady = Steady-by_next keeps (Steady-pure keeps []) (λ t. Steady-choose keeps _
        (Steady-then keeps (Steady-take keeps) (λ _. Steady-then keeps (Steady-expect keeps k.By) (λ _. Steady-separated keeps (read_key m) (read_key m') k.Comma key_steady (key_shrinks m) (key_shrinks m'))))
        (Steady-pure keeps []))

    selection_steady : Steady keeps (read_selection m) (read_selection m')
    unfolding read_selection
    selection_steady = Steady-then keeps (Steady-expect keeps k.Select) (λ _. Steady-then keeps distinct_steady (λ only.
        Steady-then keeps (Steady-separated keeps (read_item m) (read_item m') k.Comma item_steady (item_shrinks m) (item_shrinks m')) (λ items. Steady-pure keeps _)))

    tail_steady : Steady keeps (read_tail m) (read_tail m')
    unfolding read_tail
    tail_steady = Steady-then keeps (Steady-optional keeps (read_whole_expr m) (read_whole_expr m') k.Where expr_read_steady) (λ c. Steady-then keeps keys_steady (λ keys.
        Steady-then keeps (Steady-optional keeps read_number read_number k.Limit number_steady) (λ limit. Steady-pure keeps _)))

    query_steady : Steady keeps (read_query m) (read_query m')
    unfolding read_query
    query_steady = Steady-then keeps selection_steady (λ s. Steady-then keeps pattern_steady (λ paths. Steady-then keeps tail_steady (λ t. Steady-pure keeps _)))

    pub whole_steady : Steady keeps (read_whole m) (read_whole m')
    unfolding read_whole
    whole_steady = Steady-then keeps query_steady (λ q. Steady-then keeps (Steady-by_next keeps (Steady-pure keeps tt) (λ t. Steady-refuse keeps unexpected)) (λ _. Steady-pure keeps q))
