-- Chains of edges, the last edge first.
use Rattle.std.proofs.Common.{◌≡◌, ◌≢◌, ◌∙◌, sym, ap, refl, arith, ℕ, zero, suc, ◌+◌, ◌<◌, ◌≤◌, ◌==◌, Bool, true, false, cond, List, [], ◌∷◌, ◌++◌, length, map, drop, slice_index, slice_index_or, slice_set, add-one, append_assoc, length-append, ◌^◌}
use Rattle.std.proofs.lemmas.Bool.Decides.{nat_tests}
use Rattle.std.proofs.lemmas.List.{drop_all, get_or-set_other, get_or-set_same, length-set}
use Rattle.std.specs.List.{AllByRecursion}
use Rattle.graph_tables.specs.Graph.{Edge}
use Rattle.partition.specs.Kept.{IsChain, edges_from, link_of, no_number}
use Rattle.partition.specs.Parts.{near_end, no_edge}
use Rattle.partition.specs.declared.link.Link.{Link}

-- the edges from a number on have no lesser one
pub not_before : (out : Bool) (v n : ℕ) (es : List Edge) → AllByRecursion (λ e. n ≤ e.0) (edges_from out n es v)
not_before out v n [] = tt
not_before out v n (e ∷ es) = by (near_end out e == v) (later n (edges_from out (n + 1) es v) (not_before out v (n + 1) es))
  where
    later : (k : ℕ) (xs : List (ℕ × Edge)) → AllByRecursion (λ e. k + 1 ≤ e.0) xs → AllByRecursion (λ e. k ≤ e.0) xs
    later k [] all = tt
    later k (x ∷ xs) all = (omega (arith, all.0), later k xs all.1)

    by : (b : Bool) → AllByRecursion (λ f. n ≤ f.0) (edges_from out (n + 1) es v) → AllByRecursion (λ f. n ≤ f.0) (cond b ((n, e) ∷ edges_from out (n + 1) es v) (edges_from out (n + 1) es v))
    by true rest = (omega arith, rest)
    by false rest = rest

-- a chain is as it was where the next of a lesser number changes
pub chain_still : (next : List ℕ) (k x at : ℕ) (es : List (ℕ × Edge)) → AllByRecursion (λ e. k + 1 ≤ e.0) es → IsChain next at es → IsChain (slice_set next k x) at es
chain_still next k x at [] all chain = chain
chain_still next k x at (e ∷ es) all chain =
    let other : at ≢ k = λ same. absurd (omega (arith, all.0, chain.0, same)) in
    let read : slice_index (slice_set next k x) at ≡ slice_index next at = get_or-set_other next k at x 0 other in
    let size = length-set next k x in
    (chain.0, omega (arith, chain.1, size), rw read (chain_still next k x (slice_index next at) es all.1 chain.2))

-- the edges from a place on begin with what stands there
pub drop_edge : (es : List Edge) (i : ℕ) → i < length es → drop i es ≡ slice_index_or es i no_edge ∷ drop (i + 1) es
drop_edge [] i h = absurd (omega arith)
drop_edge (e ∷ es) zero h = refl
drop_edge (e ∷ es) (suc i) h = rw (add-one (suc i)) (drop_edge es i (omega arith) ∙ rw (add-one i) refl)

-- the chains with one edge more
module _ (out : Bool) (edges : List Edge) (k vertices near : ℕ) (first next : List ℕ) (less : k < length edges) (is : near ≡ near_end out (slice_index_or edges k no_edge))
    (size : length first ≡ vertices) (there : near < vertices) (room : length next ≡ length edges)
    (chains : (v : ℕ) → v < vertices → IsChain next (slice_index first v) (edges_from out (k + 1) (drop (k + 1) edges) v)) where
  pub one_more : (v : ℕ) → v < vertices → IsChain (slice_set next k (slice_index first near)) (slice_index (slice_set first near k) v) (edges_from out k (drop k edges) v)
  one_more v within = rw (drop_edge edges k less) (by (near_end out (slice_index_or edges k no_edge) == v) refl)
    where
      rest : List (ℕ × Edge)
      rest = edges_from out (k + 1) (drop (k + 1) edges) v

      still : IsChain (slice_set next k (slice_index first near)) (slice_index first v) (edges_from out (k + 1) (drop (k + 1) edges) v)
      still = chain_still next k (slice_index first near) (slice_index first v) (edges_from out (k + 1) (drop (k + 1) edges) v) (not_before out v (k + 1) (drop (k + 1) edges)) (chains v within)

      by : (b : Bool) → (near_end out (slice_index_or edges k no_edge) == v) ≡ b
          → IsChain (slice_set next k (slice_index first near)) (slice_index (slice_set first near k) v)
          (cond b ((k, slice_index_or edges k no_edge) ∷ edges_from out (k + 1) (drop (k + 1) edges) v) (edges_from out (k + 1) (drop (k + 1) edges) v))
      by true e =
          let same : near ≡ v = is ∙ grind (arith, nat_tests) in
          let head : slice_index (slice_set first near k) v ≡ k = rw same (get_or-set_same first v k 0 (omega (arith, within, size))) in
          let behind : slice_index (slice_set next k (slice_index first near)) k ≡ slice_index first near = get_or-set_same next k (slice_index first near) 0 (omega (arith, less, room)) in
          rw head (refl, rw (length-set next k (slice_index first near)) (omega (arith, less, room)), rw behind (rw same still))
      by false e =
          let other : v ≢ near = λ same. absurd (differs v same e) in
          rw (get_or-set_other first near v k 0 other) still
        where
          differs : (w : ℕ) → w ≡ near → (near_end out (slice_index_or edges k no_edge) == w) ≡ false → ⊥
          differs w same f = grind (arith, nat_tests)

-- no edge
pub none_yet : (out : Bool) (edges : List Edge) (v : ℕ) (n : ℕ) → edges_from out n (drop (length edges) edges) v ≡ []
none_yet out edges v n = rw (drop_all (length edges) edges (omega arith)) refl

-- ---- a chain that is walked

-- what is left of a chain: from this number on these edges, whose links come after those of the list
pub record Walks (next owners : List ℕ) (out : Bool) (edges : List Edge) (whole : List Link) (at : ℕ) (list : List Link) (rest : List (ℕ × Edge)) : Type 0 where
  pub chain : IsChain next at rest
  pub known : AllByRecursion (λ e. (e.0 < length edges) × (e.1 ≡ slice_index_or edges e.0 no_edge)) rest
  pub links : list ++ map (link_of owners out) rest ≡ whole

-- each edge has its number
pub each_known : (out : Bool) (v : ℕ) (edges es : List Edge) (n : ℕ) → es ≡ drop n edges → AllByRecursion (λ e. (e.0 < length edges) × (e.1 ≡ slice_index_or edges e.0 no_edge)) (edges_from out n es v)
each_known out v edges [] n is = tt
each_known out v edges (e ∷ es) n is = by (near_end out e == v) (each_known out v edges es (n + 1) rest)
  where
    within : (xs : List Edge) (k : ℕ) → e ∷ es ≡ drop k xs → k < length xs
    within [] zero f = cc f
    within [] (suc k) f = cc f
    within (x ∷ xs) zero f = omega arith
    within (x ∷ xs) (suc k) f = omega (arith, within xs k f)

    front : e ∷ es ≡ slice_index_or edges n no_edge ∷ drop (n + 1) edges
    front = is ∙ drop_edge edges n (within edges n is)

    here : e ≡ slice_index_or edges n no_edge
    here = cc front

    rest : es ≡ drop (n + 1) edges
    rest = cc front

    by : (b : Bool) → AllByRecursion (λ f. (f.0 < length edges) × (f.1 ≡ slice_index_or edges f.0 no_edge)) (edges_from out (n + 1) es v)
        → AllByRecursion (λ f. (f.0 < length edges) × (f.1 ≡ slice_index_or edges f.0 no_edge)) (cond b ((n, e) ∷ edges_from out (n + 1) es v) (edges_from out (n + 1) es v))
    by true all = ((within edges n is, here), all)
    by false all = all

pub length-edges_from : (out : Bool) (n : ℕ) (es : List Edge) (v : ℕ) → length (edges_from out n es v) ≤ length es
length-edges_from out n [] v = omega arith
length-edges_from out n (e ∷ es) v =
    elim (near_end out e == v) as (λ b. length (cond b ((n, e) ∷ edges_from out (n + 1) es v) (edges_from out (n + 1) es v)) ≤ length (e ∷ es)) [
      | true ↦ omega (arith, length-edges_from out (n + 1) es v)
      | false ↦ omega (arith, length-edges_from out (n + 1) es v)
    ]

append_none : {A : Type 0} (xs : List A) → xs ++ [] ≡ xs
append_none [] = refl
append_none (x ∷ xs) = ap (λ t. x ∷ t) (append_none xs)

module _ (next owners : List ℕ) (out : Bool) (edges : List Edge) (whole : List Link) (at : ℕ) (list : List Link) where
  pub record Goes : Type 0 where
    pub known : at < length edges
    pub within : at < length next
    pub short : length list < length whole

  pub walk_goes : (rest : List (ℕ × Edge)) → at ≢ no_number → Walks next owners out edges whole at list rest → Goes
  walk_goes [] more walk = absurd (more walk.chain)
  walk_goes (e ∷ es) more walk =
      let size = ap length walk.links in
      let long = length-append list (map (link_of owners out) (e ∷ es)) in
      record { known = rw walk.chain.0 walk.known.0.0; within = walk.chain.1; short = omega (arith, size, long) }

  -- what is left after this edge
  pub walk_on : (rest : List (ℕ × Edge)) → at ≢ no_number → Walks next owners out edges whole at list rest
      → (es : List (ℕ × Edge)) × Walks next owners out edges whole (slice_index next at) (list ++ link_of owners out (at, slice_index_or edges at no_edge) ∷ []) es
  walk_on [] more walk = absurd (more walk.chain)
  walk_on (e ∷ es) more walk =
      let same : link_of owners out (at, slice_index_or edges at no_edge) ≡ link_of owners out e = rw (walk.chain.0, ← walk.known.0.1) refl in (
        es,
        record {
          chain = walk.chain.2;
          known = walk.known.1;
          links = rw same (append_assoc list (link_of owners out e ∷ []) (map (link_of owners out) es) ∙ walk.links);
        },
      )

  pub walk_ends : (rest : List (ℕ × Edge)) → at ≡ no_number → length edges < 2 ^ 32 → Walks next owners out edges whole at list rest → list ≡ whole
  walk_ends [] none few walk = sym (append_none list) ∙ walk.links
  walk_ends (e ∷ es) none few walk = absurd (omega (arith, none, few, walk.chain.0, walk.known.0.0))
