-- The lines of a table, one more at a time.
use Rattle.std.proofs.Common.{◌≡◌, ◌∙◌, ap, sym, refl, ℕ, ◌+◌, ◌*◌, ◌%◌, List, [], ◌∷◌, ◌++◌, map, codes, zero-add, rules, arith}
use Rattle.seeded_draws.proofs.Nth.{drawn-at, moved-on}
use Rattle.std.specs.Fmt.{decimal}
use Rattle.seeded_draws.specs.Draws.{draw, next_state, nth_draw, state_after}
use Rattle.graph_gen.specs.Generated.{end_at, link_line, node_line}
use Rattle.std.specs.List.{flat_map, range_with_len}
use Rattle.std.proofs.lemmas.List.FromFn.{map-range_with_len_more}
use Rattle.std.proofs.lemmas.List.Folds.{flat_map-map}
use Rattle.std.proofs.lemmas.Grind.{flat_map-append}
use Rattle.std.proofs.lemmas.List.{append_assoc}

-- the line of the next place comes last
pub lines-more : {A : Type 0} (line : ℕ → List A) (n : ℕ)
    → flat_map line (range_with_len 0 (n + 1)) ≡ flat_map line (range_with_len 0 n) ++ line n
lines-more line n =
    let same : (m : ℕ) → flat_map line (map (λ place. place) (range_with_len 0 m)) ≡ flat_map line (range_with_len 0 m)
    = λ m. flat_map-map line (λ place. place) (range_with_len 0 m) in
    sym (same (n + 1))
    ∙ ap (flat_map line) (map-range_with_len_more (λ place. place) 0 n n (zero-add n))
    ∙ flat_map-append line (map (λ place. place) (range_with_len 0 n)) (n ∷ [])
    ∙ (let last : flat_map line (n ∷ []) ≡ line n = search rules in rw last (ap (λ lines. lines ++ line n) (same n)))

-- what stands after a head is one line longer
pub line-added : (line : ℕ → List ℕ) (place : ℕ) (head out after : List ℕ)
    → out ≡ head ++ flat_map line (range_with_len 0 place) → after ≡ out ++ line place
    → after ≡ head ++ flat_map line (range_with_len 0 (place + 1))
line-added line place head out after so_far added =
    added ∙ ap (λ lines. lines ++ line place) so_far ∙ append_assoc head _ _ ∙ ap (λ lines. head ++ lines) (sym (lines-more line place))

-- a vertex's line, by the draw that gives its weight
pub node-added : (seed place state drawn : ℕ) (out after : List ℕ) → state ≡ state_after seed place
    → drawn ≡ draw (next_state state)
    → out ≡ codes "id:int,w:int\n" ++ flat_map (node_line seed) (range_with_len 0 place)
    → after ≡ out ++ (decimal (place + 1) ++ 44 ∷ decimal (drawn % 1000) ++ 10 ∷ [])
    → after ≡ codes "id:int,w:int\n" ++ flat_map (node_line seed) (range_with_len 0 (place + 1))
node-added seed place state drawn out after at is_drawn so_far added =
    let weight : drawn ≡ nth_draw seed place = drawn-at seed place state drawn at is_drawn in
    line-added (node_line seed) place (codes "id:int,w:int\n") out after so_far
    (added ∙ ap (λ n. out ++ (decimal (place + 1) ++ 44 ∷ decimal (n % 1000) ++ 10 ∷ [])) weight)

-- an edge's line, by the two draws that give its ends
pub link-added : (seed vertices place state first mid second : ℕ) (out after : List ℕ)
    → state ≡ state_after seed (vertices + 2 * place)
    → first ≡ draw (next_state state) → mid ≡ next_state state → second ≡ draw (next_state mid)
    → out ≡ codes "id:int,source:int,target:int\n" ++ flat_map (link_line seed vertices) (range_with_len 0 place)
    → after ≡ out ++ (decimal (place + 1) ++ 44 ∷ decimal (first % vertices + 1) ++ 44 ∷ decimal (second % vertices + 1) ++ 10 ∷ [])
    → after ≡ codes "id:int,source:int,target:int\n" ++ flat_map (link_line seed vertices) (range_with_len 0 (place + 1))
link-added seed vertices place state first mid second out after at is_first to_mid is_second so_far added =
    let source : first ≡ nth_draw seed (vertices + 2 * place) = drawn-at seed _ state first at is_first in
    let halfway : mid ≡ state_after seed (vertices + 2 * place + 1) = moved-on seed _ state mid at to_mid in
    let target : second ≡ nth_draw seed (vertices + 2 * place + 1) = drawn-at seed _ mid second halfway is_second in
    let place_of_target : vertices + 2 * place + 1 ≡ vertices + (2 * place + 1) = omega arith in
    line-added (link_line seed vertices) place (codes "id:int,source:int,target:int\n") out after so_far
    (added
    ∙ ap (λ n. out ++ (decimal (place + 1) ++ 44 ∷ decimal (n % vertices + 1) ++ 44 ∷ decimal (second % vertices + 1) ++ 10 ∷ [])) source
    ∙ ap (λ n. out ++ (decimal (place + 1) ++ 44 ∷ decimal (end_at seed vertices (2 * place)) ++ 44 ∷ decimal (n % vertices + 1) ++ 10 ∷ []))
    (target ∙ ap (nth_draw seed) place_of_target))

-- the state after the draws of one more edge
pub link-drawn : (seed vertices place state mid last : ℕ) → state ≡ state_after seed (vertices + 2 * place)
    → mid ≡ next_state state → last ≡ next_state mid → last ≡ state_after seed (vertices + 2 * (place + 1))
link-drawn seed vertices place state mid last at to_mid to_last =
    let sum : vertices + 2 * place + 1 + 1 ≡ vertices + 2 * (place + 1) = omega arith in
    moved-on seed _ mid last (moved-on seed _ state mid at to_mid) to_last ∙ ap (state_after seed) sum
