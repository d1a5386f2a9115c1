-- The tables that are made of a seed load.
use Rattle.std.proofs.Common.{◌≡◌, ◌∙◌, sym, ap, refl, arith, ◌<◌, ◌≤◌, ◌+◌, ◌*◌, ◌^◌, ℕ, zero, suc, Bool, true, false, cond, Some, None, ◌&&◌, nat_lt, slice_index, zero-add, List, [], ◌∷◌, ◌++◌, codes, length, map, Ok, length-append}
use Rattle.std.proofs.lemmas.Bool.Decides.{nat_tests}
use Rattle.std.proofs.lemmas.Fmt.{length-decimal-le}
use Rattle.std.specs.Fmt.{decimal}
use Rattle.std.proofs.lemmas.Str.{IsUtf8-from_ascii, is_utf8-from_IsUtf8}
use Rattle.std.specs.List.{flat_map, list_all, range_with_len}
use Rattle.std.specs.Str.{IsAscii, is_utf8}
use Rattle.adfs_base.specs.Files.{Files}
use Rattle.graph_gen.specs.Files.{generated_files}
use Rattle.graph_gen.specs.Generated.{end_at, link_line, links_text, manifest_text, node_line, nodes_text, weight_at}
use Rattle.graph_tables.specs.Graph.{PropertyGraph, empty_graph}
use Rattle.graph_tables.specs.Headers.{columns_from}
use Rattle.graph_tables.specs.Manifest.{is_edge, is_passed_over, manifest_of, table_line, tables_of_lines}
use Rattle.graph_tables.specs.declared.element_kind.ElementKind.TheVariants as element
use Rattle.graph_tables.specs.declared.manifest.TableLine.{TableLine}
use Rattle.graph_loading.specs.Loaded.{loaded, table_records, tables_from, tables_named, with_table}
use Rattle.csv_records.specs.Table.{records_of}
use Rattle.generated_graph.proofs.MadeRecords.{end_within, link_records, node_records, small_weight}
use Rattle.generated_graph.proofs.MadeRows.{link_rows, node_rows, with_links, with_nodes}

-- ---- how long the texts are
lines_length : (line : ℕ → List ℕ) (each most : ℕ) → ((place : ℕ) → place < most → length (line place) ≤ each)
    → (n from : ℕ) → from + n ≤ most → length (flat_map line (range_with_len from n)) ≤ each * n
lines_length line each most short zero from few = omega arith
lines_length line each most short (suc n) from few =
    omega (arith, short from (omega arith), lines_length line each most short n (from + 1) (omega arith), length-append {A = ℕ})

node_short : (seed place : ℕ) → place < 200000 → length (node_line seed place) ≤ 16
node_short seed place few =
    omega (
      arith,
      length-append {A = ℕ},
      length-decimal-le 7 (place + 1) (omega arith) (omega arith) (omega arith),
      length-decimal-le 7 (weight_at seed place) (omega arith) (omega (arith, small_weight seed place)) (omega (arith, small_weight seed place)),
    )

link_short : (seed vertices : ℕ) → 1 ≤ vertices → vertices ≤ 200000 → (place : ℕ) → place < 1600000 → length (link_line seed vertices place) ≤ 24
link_short seed vertices some few place small =
    let source = end_within seed vertices (2 * place) some in
    let target = end_within seed vertices (2 * place + 1) some in
    omega (
      arith,
      length-append {A = ℕ},
      length-decimal-le 7 (place + 1) (omega arith) (omega arith) (omega arith),
      length-decimal-le 7 (end_at seed vertices (2 * place)) (omega arith) (omega arith) (omega arith),
      length-decimal-le 7 (end_at seed vertices (2 * place + 1)) (omega arith) (omega arith) (omega arith),
    )

nodes_short : (seed vertices : ℕ) → vertices ≤ 200000 → length (nodes_text seed vertices) ≤ 3200013
nodes_short seed vertices few = omega (arith, lines_length (node_line seed) 16 200000 (node_short seed) vertices 0 (omega arith))

links_short : (seed vertices edges : ℕ) → 1 ≤ vertices → vertices ≤ 200000 → edges ≤ 1600000 → length (links_text seed vertices edges) ≤ 38400029
links_short seed vertices edges some few small = omega (arith, lines_length (link_line seed vertices) 24 1600000 (link_short seed vertices some few) edges 0 (omega arith))

-- ---- the manifest and the tables
abbrev nodes_table : TableLine
nodes_table = record { of = element.Vertex; label = codes "node"; file = codes "nodes.csv" }

abbrev links_table : TableLine
links_table = record { of = element.Edge; label = codes "link"; file = codes "links.csv" }

-- a text of small bytes is UTF-8
ascii : (bytes : List ℕ) → list_all (λ b. nat_lt b 128) bytes ≡ true → IsAscii bytes
ascii [] all = λ i. omega arith
ascii (b ∷ bytes) all = by (nat_lt b 128) refl all (ascii bytes)
  where
    at : (i : ℕ) → b < 128 → IsAscii bytes → slice_index (b ∷ bytes) i < 128
    at zero less rest = less
    at (suc i) less rest = rest i

    by : (t : Bool) → nat_lt b 128 ≡ t → (t && list_all (λ b. nat_lt b 128) bytes) ≡ true → (list_all (λ b. nat_lt b 128) bytes ≡ true → IsAscii bytes) → IsAscii (b ∷ bytes)
    by true is more rest = let less : b < 128 = grind (arith, nat_tests) in λ i. at i less (rest more)
    by false is more rest = cc more

ascii_text : (bytes : List ℕ) → list_all (λ b. nat_lt b 128) bytes ≡ true → is_utf8 bytes ≡ true
ascii_text bytes all = is_utf8-from_IsUtf8 bytes (IsUtf8-from_ascii bytes (ascii bytes all))

-- the lines of the manifest
nodes_line : table_line (codes "vertices node nodes.csv") ≡ Some nodes_table
nodes_line = ap (λ (b : Bool). cond b (Some nodes_table) None) (ascii_text (codes "nodes.csv") refl)

links_line : table_line (codes "edges link links.csv") ≡ Some links_table
links_line = ap (λ (b : Bool). cond b (Some links_table) None) (ascii_text (codes "links.csv") refl)

lines_read : (a b : List ℕ) (first second : TableLine) → is_passed_over a ≡ false → is_passed_over b ≡ false → table_line a ≡ Some first → table_line b ≡ Some second
    → is_edge first.of ≡ false → is_edge second.of ≡ true → tables_of_lines 2 (a ∷ b ∷ []) [] ≡ Ok (first ∷ second ∷ [])
unfolding tables_of_lines
lines_read a b first second told_a told_b is_first is_second nodes links = rw (told_a, is_first, nodes, told_b, is_second, links) refl

manifest_read : manifest_of manifest_text ≡ Ok (nodes_table ∷ links_table ∷ [])
manifest_read = lines_read (codes "vertices node nodes.csv") (codes "edges link links.csv") nodes_table links_table refl refl nodes_line links_line refl refl

-- two tables, one after the other
two_tables : (files : Files) (manifest : List ℕ) (first second : TableLine) (a b : ℕ × PropertyGraph) → tables_named files manifest ≡ Ok (first ∷ second ∷ [])
    → with_table files 1 first (0, empty_graph) ≡ Ok a → with_table files 2 second a ≡ Ok b → loaded files manifest ≡ Ok b.1
unfolding tables_from
two_tables files manifest first second a b named one two = rw (named, one, two) refl

module _ (seed vertices edges : ℕ) (some : 1 ≤ vertices) (few : vertices ≤ 200000) (small : edges ≤ 1600000) where
  abbrev files : Files
  files = generated_files seed vertices edges

  named : tables_named files (codes "graph.txt") ≡ Ok (nodes_table ∷ links_table ∷ [])
  named = manifest_read

  nodes_made : table_records 1 nodes_table (records_of (nodes_text seed vertices)) empty_graph ≡ Ok (with_nodes seed vertices)
  unfolding columns_from
  nodes_made = rw (node_records seed vertices (omega arith)) (node_rows seed vertices 0 2 (omega arith) ∙ ap (λ n. Ok (with_nodes seed n)) (zero-add vertices))

  links_made : table_records 2 links_table (records_of (links_text seed vertices edges)) (with_nodes seed vertices) ≡ Ok (with_links seed vertices edges)
  unfolding columns_from
  links_made = rw (link_records seed vertices edges some (omega arith) (omega arith)) (link_rows seed vertices some few edges 0 2 (omega arith) ∙ ap (λ n. Ok (with_links seed vertices n)) (zero-add edges))

  nodes_load : with_table files 1 nodes_table (0, empty_graph) ≡ Ok (length (nodes_text seed vertices), with_nodes seed vertices)
  unfolding with_table
  nodes_load =
      let short = nodes_short seed vertices few in
      let file : nat_lt 268435456 (length (nodes_text seed vertices)) ≡ false = grind (arith, nat_tests) in
      let all : nat_lt 1073741824 (0 + length (nodes_text seed vertices)) ≡ false = grind (arith, nat_tests) in
      rw (file, all, nodes_made) (ap (λ n. Ok (n, with_nodes seed vertices)) (zero-add (length (nodes_text seed vertices))))

  links_load : with_table files 2 links_table (length (nodes_text seed vertices), with_nodes seed vertices)
      ≡ Ok (length (nodes_text seed vertices) + length (links_text seed vertices edges), with_links seed vertices edges)
  unfolding with_table
  links_load =
      let short_nodes = nodes_short seed vertices few in
      let short = links_short seed vertices edges some few small in
      let file : nat_lt 268435456 (length (links_text seed vertices edges)) ≡ false = grind (arith, nat_tests) in
      let all : nat_lt 1073741824 (length (nodes_text seed vertices) + length (links_text seed vertices edges)) ≡ false = grind (arith, nat_tests) in
      rw (file, all, links_made) refl

  pub tables_load : loaded files (codes "graph.txt") ≡ Ok (with_links seed vertices edges)
  tables_load =
      two_tables files (codes "graph.txt") nodes_table links_table (length (nodes_text seed vertices), with_nodes seed vertices)
      (length (nodes_text seed vertices) + length (links_text seed vertices edges), with_links seed vertices edges) named nodes_load links_load
