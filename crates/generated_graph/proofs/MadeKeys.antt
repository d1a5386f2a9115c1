-- The elements that are made of a seed, and where their keys stand.
use Rattle.std.proofs.Common.{◌≡◌, ◌∙◌, sym, ap, refl, arith, ◌<◌, ◌≤◌, ◌+◌, ◌-◌, ◌*◌, ◌^◌, ℕ, zero, suc, ℤ, pos, true, false, nat_lt, cond, List, [], ◌∷◌, length, map, Option, Some, None}
use Rattle.std.proofs.lemmas.Bool.Decides.{nat_tests}
use Rattle.std.proofs.lemmas.List.FromFn.{get_or-map-range_with_len, length-map-range_with_len}
use Rattle.std.proofs.lemmas.List.Sums.{position_or_len_is, sum_by-append}
use Rattle.std.specs.List.{position, position_or_len, range_with_len}
use Rattle.std.specs.Ordering.{int_eq}
use Rattle.adfs_base.specs.declared.value.Value.TheVariants as value
use Rattle.element_store.specs.Elements.{Element, cells_in, keys_in, number_of}
use Rattle.graph_tables.specs.Graph.{Edge, without_ends}
use Rattle.graph_gen.specs.Generated.{end_at, weight_at}

-- the vertex of a place, and the edge
abbrev pub node_at : ℕ → ℕ → Element
node_at seed place = record { key = pos (place + 1); label = 0; values = (0, value.Int (pos (weight_at seed place))) ∷ [] }

abbrev pub link_at : ℕ → ℕ → ℕ → Edge
link_at seed vertices place =
    record { key = pos (place + 1); label = 1; source = end_at seed vertices (2 * place) - 1; target = end_at seed vertices (2 * place + 1) - 1; values = [] }

abbrev pub nodes_of : ℕ → ℕ → List Element
nodes_of seed n = map (node_at seed) (range_with_len 0 n)

abbrev pub links_of : ℕ → ℕ → ℕ → List Edge
links_of seed vertices n = map (link_at seed vertices) (range_with_len 0 n)

abbrev key_at : ℕ → ℤ
key_at place = pos (place + 1)

-- ---- keys
node_keys : (seed : ℕ) (places : List ℕ) → keys_in (map (node_at seed) places) ≡ map key_at places
node_keys seed [] = refl
node_keys seed (place ∷ places) = ap (λ keys. key_at place ∷ keys) (node_keys seed places)

link_keys : (seed vertices : ℕ) (places : List ℕ) → keys_in (without_ends (map (link_at seed vertices) places)) ≡ map key_at places
link_keys seed vertices [] = refl
link_keys seed vertices (place ∷ places) = ap (λ keys. key_at place ∷ keys) (link_keys seed vertices places)

-- where a key stands among those of the places from 0
key_place : (n place : ℕ) → place ≤ n → position_or_len (int_eq (key_at place)) (map key_at (range_with_len 0 n)) ≡ place
key_place n place within =
    let size : length (map key_at (range_with_len 0 n)) ≡ n = length-map-range_with_len key_at 0 n in
    position_or_len_is (int_eq (key_at place)) (map key_at (range_with_len 0 n)) place (pos 0) (omega (arith, size))
    (λ k less. rw (get_or-map-range_with_len key_at 0 n k k (pos 0) (omega arith) (omega arith)) (other place k less))
    (λ less. rw (get_or-map-range_with_len key_at 0 n place place (pos 0) (omega (arith, size, less)) (omega arith)) (same place)) where
      other : (a b : ℕ) → b < a → int_eq (pos (a + 1)) (pos (b + 1)) ≡ false
      other a b less = grind (arith, nat_tests)

      same : (a : ℕ) → int_eq (pos (a + 1)) (pos (a + 1)) ≡ true
      same a = grind (arith, nat_tests)

key_found : (n place : ℕ) → place < n → position (int_eq (key_at place)) (map key_at (range_with_len 0 n)) ≡ Some place
key_found n place within =
    let test : nat_lt place n ≡ true = grind (arith, nat_tests) in
    let is : position_or_len (int_eq (key_at place)) (map key_at (range_with_len 0 n)) ≡ place = key_place n place (omega arith) in
    rw (is, length-map-range_with_len key_at 0 n, test) refl

key_new : (n : ℕ) → position (int_eq (key_at n)) (map key_at (range_with_len 0 n)) ≡ None
key_new n =
    let test : nat_lt n n ≡ false = grind (arith, nat_tests) in
    let is : position_or_len (int_eq (key_at n)) (map key_at (range_with_len 0 n)) ≡ n = key_place n n (omega arith) in
    rw (is, length-map-range_with_len key_at 0 n, test) refl

pub node_new : (seed n : ℕ) → number_of (nodes_of seed n) (pos (n + 1)) ≡ None
node_new seed n = ap (position (int_eq (key_at n))) (node_keys seed (range_with_len 0 n)) ∙ key_new n

pub link_new : (seed vertices n : ℕ) → number_of (without_ends (links_of seed vertices n)) (pos (n + 1)) ≡ None
link_new seed vertices n = ap (position (int_eq (key_at n))) (link_keys seed vertices (range_with_len 0 n)) ∙ key_new n

pub node_found : (seed n key : ℕ) → 1 ≤ key → key ≤ n → number_of (nodes_of seed n) (pos key) ≡ Some (key - 1)
node_found seed n key some within =
    let is : key - 1 + 1 ≡ key = omega arith in
    ap (λ k. number_of (nodes_of seed n) (pos k)) (sym is)
    ∙ ap (position (int_eq (key_at (key - 1)))) (node_keys seed (range_with_len 0 n)) ∙ key_found n (key - 1) (omega arith)

-- ---- how many there are, and their cells
cells_of_nodes : (seed n from : ℕ) → cells_in (map (node_at seed) (range_with_len from n)) ≡ n
cells_of_nodes seed zero from = refl
cells_of_nodes seed (suc n) from =
    let later = cells_of_nodes seed n (from + 1) in
    let step : cells_in (map (node_at seed) (range_with_len from (suc n))) ≡ 1 + cells_in (map (node_at seed) (range_with_len (from + 1) n))
    = sum_by-append (λ (e : Element). length e.values) (node_at seed from ∷ []) (map (node_at seed) (range_with_len (from + 1) n)) in
    omega (arith, later, step)

cells_of_links : (seed vertices : ℕ) (places : List ℕ) → cells_in (without_ends (map (link_at seed vertices) places)) ≡ 0
cells_of_links seed vertices [] = refl
cells_of_links seed vertices (place ∷ places) = cells_of_links seed vertices places

pub node_cells : (seed n : ℕ) → cells_in (nodes_of seed n) ≡ n
node_cells seed n = cells_of_nodes seed n 0

pub link_cells : (seed vertices n : ℕ) → cells_in (without_ends (links_of seed vertices n)) ≡ 0
link_cells seed vertices n = cells_of_links seed vertices (range_with_len 0 n)
