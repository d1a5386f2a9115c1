-- The records of the tables that are made of a seed.
use Rattle.std.proofs.Common.{◌≡◌, ◌∙◌, sym, ap, refl, arith, ◌<◌, ◌≤◌, ◌+◌, ◌*◌, ◌%◌, ◌^◌, ℕ, List, [], ◌∷◌, ◌++◌, codes, length, map}
use Rattle.std.specs.Fmt.{decimal}
use Rattle.std.specs.List.{flat_map, range_with_len}
use Rattle.csv.specs.Reading.{default_config, records, strip_bom}
use Rattle.csv.specs.Writing.{default_writer, fields_text, is_blank, read_back, row_text}
use Rattle.csv.proofs.RoundTrip.{rows_text}
use Rattle.csv_records.specs.Table.{records_of}
use Rattle.graph_gen.specs.Generated.{end_at, link_line, links_text, node_line, nodes_text, weight_at}
use Rattle.seeded_draws.specs.Draws.{nth_draw}
use Rattle.generated_graph.proofs.NumberLines.{line_of_three, line_of_two, plain, read_rows, same_back, text_of_rows}

abbrev pub node_row : ℕ → ℕ → List (List ℕ)
node_row seed place = decimal (place + 1) ∷ decimal (weight_at seed place) ∷ []

abbrev pub link_row : ℕ → ℕ → ℕ → List (List ℕ)
link_row seed vertices place = decimal (place + 1) ∷ decimal (end_at seed vertices (2 * place)) ∷ decimal (end_at seed vertices (2 * place + 1)) ∷ []

abbrev pub node_heads : List (List ℕ)
node_heads = codes "id:int" ∷ codes "w:int" ∷ []

abbrev pub link_heads : List (List ℕ)
link_heads = codes "id:int" ∷ codes "source:int" ∷ codes "target:int" ∷ []

-- a weight is below 1,000, and an end is one of the vertices
pub small_weight : (seed place : ℕ) → weight_at seed place < 1000
small_weight seed place = omega arith

pub end_within : (seed vertices place : ℕ) → 1 ≤ vertices → (1 ≤ end_at seed vertices place) × (end_at seed vertices place ≤ vertices)
end_within seed vertices place some = (omega arith, omega arith)

node_lines : (seed place : ℕ) → place < 2 ^ 32 → row_text default_writer (node_row seed place) ≡ node_line seed place
node_lines seed place few =
    line_of_two (decimal (place + 1)) (decimal (weight_at seed place)) (plain (place + 1) (omega arith)) (plain (weight_at seed place) (omega (arith, small_weight seed place)))

link_lines : (seed vertices : ℕ) → 1 ≤ vertices → vertices < 2 ^ 32 → (place : ℕ) → place < 2 ^ 32 → row_text default_writer (link_row seed vertices place) ≡ link_line seed vertices place
link_lines seed vertices some few place small =
    let source = end_within seed vertices (2 * place) some in
    let target = end_within seed vertices (2 * place + 1) some in
    line_of_three (decimal (place + 1)) (decimal (end_at seed vertices (2 * place))) (decimal (end_at seed vertices (2 * place + 1)))
    (plain (place + 1) (omega arith)) (plain (end_at seed vertices (2 * place)) (omega arith)) (plain (end_at seed vertices (2 * place + 1)) (omega arith))

-- a text of records without a mark before them
read_as : (text : List ℕ) (rows : List (List (List ℕ))) → strip_bom text ≡ text → text ≡ rows_text rows → records_of text ≡ map read_back rows
read_as text rows bare is = rw (bare, is) (read_rows rows)

pub node_records : (seed vertices : ℕ) → vertices < 2 ^ 32 → records_of (nodes_text seed vertices) ≡ node_heads ∷ map (node_row seed) (range_with_len 0 vertices)
unfolding strip_bom rows_text fields_text is_blank
node_records seed vertices few =
    let text : nodes_text seed vertices ≡ rows_text (node_heads ∷ map (node_row seed) (range_with_len 0 vertices))
    = ap (λ text. codes "id:int,w:int\n" ++ text) (text_of_rows (node_row seed) (node_line seed) (2 ^ 32) (node_lines seed) vertices 0 (omega arith)) in
    read_as (nodes_text seed vertices) (node_heads ∷ map (node_row seed) (range_with_len 0 vertices)) refl text
    ∙ ap (λ rows. node_heads ∷ rows) (same_back (node_row seed) (λ place. refl) (range_with_len 0 vertices))

pub link_records : (seed vertices edges : ℕ) → 1 ≤ vertices → vertices < 2 ^ 32 → edges < 2 ^ 32
    → records_of (links_text seed vertices edges) ≡ link_heads ∷ map (link_row seed vertices) (range_with_len 0 edges)
unfolding strip_bom rows_text fields_text is_blank
link_records seed vertices edges some few few_edges =
    let text : links_text seed vertices edges ≡ rows_text (link_heads ∷ map (link_row seed vertices) (range_with_len 0 edges))
    = ap (λ text. codes "id:int,source:int,target:int\n" ++ text) (text_of_rows (link_row seed vertices) (link_line seed vertices) (2 ^ 32) (link_lines seed vertices some few) edges 0 (omega arith)) in
    read_as (links_text seed vertices edges) (link_heads ∷ map (link_row seed vertices) (range_with_len 0 edges)) refl text
    ∙ ap (λ rows. link_heads ∷ rows) (same_back (link_row seed vertices) (λ place. refl) (range_with_len 0 edges))
