-- What the rows of the tables that are made of a seed give.
use Rattle.std.proofs.Common.{◌≡◌, ◌∙◌, sym, ap, refl, arith, ◌<◌, ◌≤◌, ◌+◌, ◌-◌, ◌*◌, ◌^◌, ℕ, zero, suc, pos, true, false, nat_le, nat_lt, List, [], ◌∷◌, ◌++◌, codes, length, map, Some, None, Ok, subst}
use Rattle.std.proofs.lemmas.Bool.Decides.{nat_tests}
use Rattle.std.proofs.lemmas.Fmt.{decimal_nonempty}
use Rattle.std.proofs.lemmas.List.FromFn.{length-map-range_with_len, map-range_with_len_more}
use Rattle.std.specs.Fmt.{decimal}
use Rattle.std.specs.List.{range_with_len}
use Rattle.adfs_base.specs.declared.value.Kind.TheVariants as k
use Rattle.adfs_base.specs.declared.value.Value.TheVariants as value
use Rattle.element_store.specs.Columns.{Column}
use Rattle.graph_tables.specs.Graph.{PropertyGraph, cells_made, without_ends}
use Rattle.graph_tables.specs.declared.element_kind.ElementKind.TheVariants as element
use Rattle.graph_tables.specs.declared.faults.Place.{Place}
use Rattle.graph_loading.specs.Rows.{admitted, edge_admitted, edge_record, end_at as end_in, ends_of, new_key, rows_from, values_from, vertex_admitted, vertex_record}
use Rattle.value_text.specs.Cells.{cell_value}
use Rattle.value_text.specs.Numbers.{int_cell}
use Rattle.value_text.proofs.Numerals.{ints_read_back}
use Rattle.graph_gen.specs.Generated.{end_at, weight_at}
use Rattle.generated_graph.proofs.MadeKeys.{link_at, link_cells, link_new, links_of, node_at, node_cells, node_found, node_new, nodes_of}
use Rattle.generated_graph.proofs.MadeRecords.{end_within, link_row, node_row, small_weight}

-- the graph after so many vertices, and after so many edges
abbrev pub with_nodes : ℕ → ℕ → PropertyGraph
with_nodes seed n =
    record { vertices = nodes_of seed n; edges = []; texts = codes "node" ∷ []; vertex_properties = record { name = codes "w"; type = k.Int } ∷ []; edge_properties = [] }

abbrev pub with_links : ℕ → ℕ → ℕ → PropertyGraph
with_links seed vertices n = record {
  vertices = nodes_of seed vertices;
  edges = links_of seed vertices n;
  texts = codes "node" ∷ codes "link" ∷ [];
  vertex_properties = record { name = codes "w"; type = k.Int } ∷ [];
  edge_properties = [];
}

abbrev pub weight_column : List Column
weight_column = (0, k.Int) ∷ []

-- ---- cells
int_of : (n : ℕ) → n < 2 ^ 63 → int_cell (decimal n) ≡ Ok (pos n)
int_of n few = ints_read_back (pos n) (grind (arith, nat_tests))

value_of_filled : (text : List ℕ) (n : ℕ) (texts : List (List ℕ)) → 0 < length text → int_cell text ≡ Ok (pos n) → cell_value k.Int text texts ≡ Ok (value.Int (pos n), texts)
value_of_filled [] n texts some is = absurd (omega arith)
value_of_filled (b ∷ rest) n texts some is = rw is refl

value_of : (n : ℕ) (texts : List (List ℕ)) → n < 2 ^ 63 → cell_value k.Int (decimal n) texts ≡ Ok (value.Int (pos n), texts)
value_of n texts few = value_of_filled (decimal n) n texts (decimal_nonempty n (omega arith)) (int_of n few)

-- ---- vertices
nodes_more : (seed n : ℕ) → nodes_of seed n ++ node_at seed n ∷ [] ≡ nodes_of seed (n + 1)
nodes_more seed n = sym (map-range_with_len_more (node_at seed) 0 n n (omega arith))

module _ (seed : ℕ) where
  node_room : (at : Place) (n : ℕ) → n < 200000 → admitted element.Vertex at (length (nodes_of seed n)) (cells_made (with_nodes seed n)) 1 2 ≡ Ok tt
  node_room at n few =
      let size : length (nodes_of seed n) ≡ n = length-map-range_with_len (node_at seed) 0 n in
      let cells : cells_made (with_nodes seed n) ≡ n = omega (arith, node_cells seed n) in
      let below : nat_le 4194304 n ≡ false = grind (arith, nat_tests) in
      let room : nat_lt 67108864 (n + 1) ≡ false = grind (arith, nat_tests) in
      rw (size, cells, below, room) refl

  node_key : (at : Place) (n : ℕ) → n < 200000 → new_key at (nodes_of seed n) (decimal (n + 1)) ≡ Ok (pos (n + 1))
  node_key at n few = rw (int_of (n + 1) (omega arith), node_new seed n) refl

  node_weight : (at : Place) (n : ℕ) → values_from at 2 weight_column (decimal (weight_at seed n) ∷ []) ([], codes "node" ∷ []) ≡ Ok (value.Int (pos (weight_at seed n)) ∷ [], codes "node" ∷ [])
  unfolding values_from
  node_weight at n = rw (value_of (weight_at seed n) (codes "node" ∷ []) (omega (arith, small_weight seed n))) refl

  node_step : (at : Place) (n : ℕ) → n < 200000 → vertex_record at 0 weight_column (node_row seed n) (with_nodes seed n) ≡ Ok (with_nodes seed (n + 1))
  unfolding vertex_admitted
  node_step at n few =
      rw (node_room at n few, node_key at n few, node_weight at n)
      (ap (λ vertices. Ok (record (with_nodes seed n) { vertices = vertices })) (nodes_more seed n))

  pub node_rows : (left n row : ℕ) → n + left ≤ 200000
      → rows_from element.Vertex 1 row 0 weight_column (map (node_row seed) (range_with_len n left)) (with_nodes seed n) ≡ Ok (with_nodes seed (n + left))
  unfolding rows_from
  node_rows zero n row few = ap (λ m. Ok (with_nodes seed m)) (omega arith)
  node_rows (suc left) n row few =
      let step = node_step (record { file = 1; row = row }) n (omega arith) in
      let sum : n + 1 + left ≡ n + suc left = omega arith in
      rw step (node_rows left (n + 1) (row + 1) (omega arith) ∙ ap (λ m. Ok (with_nodes seed m)) sum)

-- ---- edges
links_more : (seed vertices n : ℕ) → links_of seed vertices n ++ link_at seed vertices n ∷ [] ≡ links_of seed vertices (n + 1)
links_more seed vertices n = sym (map-range_with_len_more (link_at seed vertices) 0 n n (omega arith))

module _ (seed vertices : ℕ) (some : 1 ≤ vertices) (few : vertices ≤ 200000) where
  link_room : (at : Place) (n : ℕ) → n < 1600000 → admitted element.Edge at (length (links_of seed vertices n)) (cells_made (with_links seed vertices n)) 0 3 ≡ Ok tt
  link_room at n small =
      let size : length (links_of seed vertices n) ≡ n = length-map-range_with_len (link_at seed vertices) 0 n in
      let cells : cells_made (with_links seed vertices n) ≡ vertices = omega (arith, node_cells seed vertices, link_cells seed vertices n) in
      let below : nat_le 16777216 n ≡ false = grind (arith, nat_tests) in
      let room : nat_lt 67108864 (vertices + 0) ≡ false = grind (arith, nat_tests) in
      rw (size, cells, below, room) refl

  link_key : (at : Place) (n : ℕ) → n < 1600000 → new_key at (without_ends (links_of seed vertices n)) (decimal (n + 1)) ≡ Ok (pos (n + 1))
  link_key at n small = rw (int_of (n + 1) (omega arith), link_new seed vertices n) refl

  link_end : (at : Place) (column place : ℕ) → end_in at column (nodes_of seed vertices) (decimal (end_at seed vertices place)) ≡ Ok (end_at seed vertices place - 1)
  link_end at column place =
      let within = end_within seed vertices place some in
      rw (int_of (end_at seed vertices place) (omega arith), node_found seed vertices (end_at seed vertices place) within.0 within.1) refl

  link_ends : (at : Place) (n : ℕ) → ends_of at (nodes_of seed vertices) (link_row seed vertices n) ≡ Ok (end_at seed vertices (2 * n) - 1, end_at seed vertices (2 * n + 1) - 1)
  link_ends at n = rw (link_end at 2 (2 * n), link_end at 3 (2 * n + 1)) refl

  link_step : (at : Place) (n : ℕ) → n < 1600000 → edge_record at 1 [] (link_row seed vertices n) (with_links seed vertices n) ≡ Ok (with_links seed vertices (n + 1))
  unfolding edge_admitted values_from
  link_step at n small =
      rw (link_room at n small, link_key at n small, link_ends at n)
      (ap (λ edges. Ok (record (with_links seed vertices n) { edges = edges })) (links_more seed vertices n))

  pub link_rows : (left n row : ℕ) → n + left ≤ 1600000
      → rows_from element.Edge 2 row 1 [] (map (link_row seed vertices) (range_with_len n left)) (with_links seed vertices n) ≡ Ok (with_links seed vertices (n + left))
  unfolding rows_from
  link_rows zero n row small = ap (λ m. Ok (with_links seed vertices m)) (omega arith)
  link_rows (suc left) n row small =
      let step = link_step (record { file = 2; row = row }) n (omega arith) in
      let sum : n + 1 + left ≡ n + suc left = omega arith in
      rw step (link_rows left (n + 1) (row + 1) (omega arith) ∙ ap (λ m. Ok (with_links seed vertices m)) sum)
