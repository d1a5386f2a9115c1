-- The leaves of a plan's tree over the parts of a graph stand for all matches.
use Rattle.std.proofs.Common.{◌≡◌, ℕ, zero, suc, ◌+◌, ◌-◌, ◌*◌, ◌/◌, ◌<◌, ◌≤◌, ◌⊎◌, max, Bool, true, false, cond, ◌==◌, eqb, ltb, List, [], ◌∷◌, ◌++◌, length, map, get_or}
use Rattle.std.proofs.Common.{set, replicate, Some}
use Rattle.std.proofs.Common.{count_by, sum_by, filter, flat_map, refl, sym, ap, ap₂, ◌∙◌, subst, arith, true≢false, inl, inr, length-set, get_or-set_same, get_or-set_other}
use Rattle.std.specs.Prelude.{slice_get, slice_index}
use Rattle.std.specs.List.{AllByRecursion, range_with_len}
use Rattle.std.proofs.lemmas.Bool.{cases_eq, cases_lt, eqb-true, eq-eqb, le-ltb, lt-ltb, ne_eqb}
use Rattle.std.specs.Int.{div_ceil}
use Rattle.std.proofs.lemmas.Grind.{div_ceil_times}
use Rattle.std.proofs.lemmas.Nat.{div_below, mod_below}
use Rattle.std.proofs.Math.Nat.{mul_comm}
use Rattle.std.proofs.lemmas.List.FromFn.{get_or-map-range_with_len, length-map-range_with_len}
use Rattle.graph_tables.specs.Graph.{PropertyGraph}
use Rattle.match_context.specs.Leaves.{leaves, leaves_within, machine_leaves, root_leaves, tree_leaves}
use Rattle.match_context.specs.Tree.{Tree}
use Rattle.match_context.specs.declared.context.Context.{Context}
use Rattle.partition.specs.Owners.{IsOwner, machine_of}
use Rattle.partition.specs.Parts.{owners_in, part_of, part_with}
use Rattle.partition.specs.declared.owner.Owner.{Owner}
use Rattle.partition.specs.declared.owner.Owner.TheVariants as owner
use Rattle.pgql_meaning.specs.Answer.{all_matches}
use Rattle.pgql_meaning.specs.Assignments.{ranges_of}
use Rattle.typed_expr.specs.declared.query.Capture.{Capture}
use Rattle.typed_expr.specs.declared.query.Query.{Query}
use Rattle.stage_plan.specs.Hops.{hops_of}
use Rattle.stage_plan.specs.Moves.{IsOrdered, Start, moves_from, moves_of}
use Rattle.stage_plan.specs.Walk.{Walk, rooted, stages_from, stages_of, walk_after}
use Rattle.stage_plan.specs.declared.hop.Hop.{Hop}
use Rattle.stage_plan.proofs.Wellness.{wellness}
use Rattle.stage_plan.proofs.Whole.{plans_are_whole}
use Rattle.plan_tree.specs.Laws.{LeavesAreAll, over_parts}
use Rattle.plan_tree.specs.PlanTree.{no_words, numbers_of, numbers_on, root_of, tree_of}
use Rattle.plan_tree.specs.Rows.{rows_of, unbound}
use Rattle.plan_tree.specs.Told.{with_number}
use Rattle.plan_tree.proofs.Agree.{IsWithin-bind, at, range_of_free}
use Rattle.plan_tree.proofs.AllRows.{IsWithin-unbound, moves_lead_to_all}
use Rattle.plan_tree.proofs.Bags.{count_by-append, count_by-flat_map, sum_by-each, sum_by-filter, sum_by-plus, sum_by-same, sum_by-zero}
use Rattle.plan_tree.proofs.Lead.{Lead, lead-append, lead-none, lead-same}
use Rattle.plan_tree.proofs.Leaves.{Stands, lead}
use Rattle.plan_tree.proofs.PartLaws.{numbers-are}
use Rattle.plan_tree.proofs.Tells.{HasRoom, Tells, all-get}

all-at : (P : ℕ → Type 0) (xs : List ℕ) (v : ℕ) → AllByRecursion P xs → v < length xs → P (get_or xs v 0)
all-at P [] v all below = absurd (omega arith)
all-at P (x ∷ xs) zero all below = all.0
all-at P (x ∷ xs) (suc v) all below = all-at P xs v all.1 (omega arith)

block-below : (vertices machines v c : ℕ) → v < vertices → vertices ≤ c * machines → v / max c 1 < machines
block-below vertices machines v zero below times = absurd (omega arith)
block-below vertices machines v (suc c) below times =
    let size : max (suc c) 1 ≡ suc c = omega arith in
    div_below v (max (suc c) 1) machines (omega arith)
    (subst (λ n. v < n) (sym (ap (λ b. machines * b) size ∙ mul_comm machines (suc c))) (omega arith))

-- each vertex is owned by a machine that there is
owner-below : (o : Owner) (vertices machines v : ℕ) → 0 < machines → IsOwner o vertices machines → v < vertices → machine_of o vertices machines v < machines
owner-below owner.Modulo vertices machines v some is below = mod_below v machines some
owner-below owner.Block vertices machines v some is below =
    block-below vertices machines v (div_ceil vertices machines) below (div_ceil_times vertices machines some).0
owner-below (owner.Listed list) vertices machines v some is below = all-at (λ m. m < machines) list v is.1 (subst (λ n. v < n) (sym is.0) below)

pub owned-in : (o : Owner) (vertices machines n : ℕ) → 0 < machines → IsOwner o vertices machines → n < vertices → slice_index (owners_in o vertices machines) n < machines
owned-in o vertices machines n some is below =
    subst (λ m. m < machines) (sym (get_or-map-range_with_len (λ v. machine_of o vertices machines v) 0 vertices n n 0 below (omega arith)))
    (owner-below o vertices machines n some is below)

length-same : {X : Type 0} (n : ℕ) (x : X) → length (replicate n x) ≡ n
length-same zero x = refl
length-same (suc n) x = ap suc (length-same n x)

get_or-same : {X : Type 0} (n i : ℕ) (x : X) → get_or (replicate n x) i x ≡ x
get_or-same zero i x = refl
get_or-same (suc n) zero x = refl
get_or-same (suc n) (suc i) x = get_or-same n i x

-- the context of a root tells of its vertex alone
tells-root : (g : PropertyGraph) (q : Query) (i : ℕ) → 0 < length q.variables → HasRoom q
    → Tells g q (replicate (length q.variables) false) (set (unbound q) 0 i) (with_number 0 i no_words)
unfolding no_words
tells-root g q i some room = record {
  size = length-set no_words 1 i ∙ length-same {X = ℕ} 40 0;
  numbers = λ v low. at_variable v low;
  captures = λ place x found known. absurd (true≢false (sym known ∙ get_or-same (length q.variables) x.variable false));
} where
  at_variable : (v : ℕ) → v < length q.variables → get_or (set no_words 1 i) (1 + v) 0 ≡ at (set (unbound q) 0 i) v
  at_variable zero low =
      get_or-set_same no_words 1 i 0 (subst (λ n. 1 < n) (sym (length-same {X = ℕ} 40 0)) (omega arith))
      ∙ sym (get_or-set_same (unbound q) 0 i 0 (subst (λ n. 0 < n) (sym (length-same {X = ℕ} (length q.variables) 0)) some))
  at_variable (suc v) low =
      get_or-set_other no_words 1 (1 + suc v) i 0 (λ e. omega arith) ∙ get_or-same {X = ℕ} 40 (1 + suc v) 0
      ∙ sym (get_or-set_other (unbound q) 0 (suc v) i 0 (λ e. omega arith) ∙ get_or-same {X = ℕ} (length q.variables) (suc v) 0)

abbrev rows_on : (ℕ → List (List ℕ)) → (ℕ → List ℕ) → ℕ → List (List ℕ)
rows_on rows numbers zero = []
rows_on rows numbers (suc m) = rows_on rows numbers m ++ flat_map rows (numbers m)

module _ (g : PropertyGraph) (q : Query) (tree : Tree) (rows : ℕ → List (List ℕ)) (numbers : ℕ → List ℕ)
    (roots_are : (m : ℕ) → tree.roots m ≡ length (numbers m)) (root_is : (m p : ℕ) → tree.root m p ≡ root_of (get_or (numbers m) p 0)) where
  lead-roots : (m place : ℕ) (front ns : List ℕ) → numbers m ≡ front ++ ns → length front ≡ place
      → AllByRecursion (λ n. Lead g q (leaves tree 0 m (root_of n)) (rows n)) ns → Lead g q (root_leaves tree m (length ns) place) (flat_map rows ns)
  lead-roots m place front [] is size each = lead-none g q
  lead-roots m place front (n ∷ ns) is size each =
      lead-append g q (leaves tree 0 m (tree.root m place)) (root_leaves tree m (length ns) (place + 1)) (rows n) (flat_map rows ns)
      (subst (λ c. Lead g q (leaves tree 0 m c) (rows n)) (sym (root_is m place ∙ ap root_of here)) each.0)
      (lead-roots m (place + 1) (front ++ n ∷ []) ns (is ∙ shifted front) (longer front ∙ ap (λ k. k + 1) size) each.1)
    where
      at_front : (fs : List ℕ) → get_or (fs ++ n ∷ ns) (length fs) 0 ≡ n
      at_front [] = refl
      at_front (f ∷ fs) = at_front fs

      here : get_or (numbers m) place 0 ≡ n
      here = ap₂ (λ xs p. get_or xs p 0) is (sym size) ∙ at_front front

      shifted : (fs : List ℕ) → fs ++ n ∷ ns ≡ (fs ++ n ∷ []) ++ ns
      shifted [] = refl
      shifted (f ∷ fs) = ap (λ zs. f ∷ zs) (shifted fs)

      longer : (fs : List ℕ) → length (fs ++ n ∷ []) ≡ length fs + 1
      longer [] = refl
      longer (f ∷ fs) = let later = longer fs in omega arith

  lead-machines : (k machines : ℕ) → k ≤ machines
      → ((m : ℕ) → m < machines → AllByRecursion (λ n. Lead g q (leaves tree 0 m (root_of n)) (rows n)) (numbers m))
      → Lead g q (machine_leaves tree k) (rows_on rows numbers k)
  lead-machines zero machines most each = lead-none g q
  lead-machines (suc m) machines most each =
      lead-append g q (machine_leaves tree m) (root_leaves tree m (tree.roots m) 0) (rows_on rows numbers m) (flat_map rows (numbers m))
      (lead-machines m machines (omega arith) each)
      (subst (λ n. Lead g q (root_leaves tree m n 0) (flat_map rows (numbers m))) (sym (roots_are m)) (lead-roots m 0 [] (numbers m) refl refl (each m (omega arith))))

-- the rows of the machines are those of all vertices
counted-on : (owners : List ℕ) (all : List ℕ) (rows : ℕ → List (List ℕ)) (t : List ℕ → Bool) (k : ℕ)
    → count_by t (rows_on rows (λ m. filter (λ i. slice_index owners i == m) all) k) ≡ sum_by (λ i. cond (ltb (slice_index owners i) k) (count_by t (rows i)) 0) all
counted-on owners all rows t zero = sym (sum_by-zero all) ∙ sum_by-same (λ _. 0) (λ i. cond (ltb (slice_index owners i) 0) (count_by t (rows i)) 0) all
    (λ i. sym (ap (λ b. cond b (count_by t (rows i)) 0) (le-ltb (slice_index owners i) 0 (omega arith))))
counted-on owners all rows t (suc m) =
    let own = filter (λ i. slice_index owners i == m) all in
    count_by-append t (rows_on rows (λ m. filter (λ i. slice_index owners i == m) all) m) (flat_map rows own)
    ∙ ap₂ ◌+◌ (counted-on owners all rows t m)
    (count_by-flat_map t rows own ∙ sum_by-filter (λ i. count_by t (rows i)) (λ i. slice_index owners i == m) all)
    ∙ sym (sum_by-plus (λ i. cond (ltb (slice_index owners i) m) (count_by t (rows i)) 0) (λ i. cond (slice_index owners i == m) (count_by t (rows i)) 0) all)
    ∙ sum_by-same (λ i. cond (ltb (slice_index owners i) m) (count_by t (rows i)) 0 + cond (slice_index owners i == m) (count_by t (rows i)) 0)
    (λ i. cond (ltb (slice_index owners i) (suc m)) (count_by t (rows i)) 0) all (λ i. at_side (slice_index owners i) (count_by t (rows i)))
  where
    at_side : (o n : ℕ) → cond (ltb o m) n 0 + cond (eqb o m) n 0 ≡ cond (ltb o (suc m)) n 0
    at_side o n = before (cases_lt o m) where
      after : (o ≡ m) ⊎ (o ≡ m → ⊥) → m ≤ o → cond (ltb o m) n 0 + cond (eqb o m) n 0 ≡ cond (ltb o (suc m)) n 0
      after (inl same) le =
          ap₂ ◌+◌ (ap (λ b. cond b n 0) (le-ltb o m le)) (ap (λ b. cond b n 0) (eq-eqb o m same))
          ∙ (let e : 0 + n ≡ n = omega arith in e) ∙ sym (ap (λ b. cond b n 0) (lt-ltb o (suc m) (omega arith)))
      after (inr other) le =
          ap₂ ◌+◌ (ap (λ b. cond b n 0) (le-ltb o m le)) (ap (λ b. cond b n 0) (ne_eqb o m other))
          ∙ sym (ap (λ b. cond b n 0) (le-ltb o (suc m) (omega arith)))

      before : (o < m) ⊎ (m ≤ o) → cond (ltb o m) n 0 + cond (eqb o m) n 0 ≡ cond (ltb o (suc m)) n 0
      before (inl less) =
          ap₂ ◌+◌ (ap (λ b. cond b n 0) (lt-ltb o m less)) (ap (λ b. cond b n 0) (ne_eqb o m (λ e. omega arith)))
          ∙ (let e : n + 0 ≡ n = omega arith in e) ∙ sym (ap (λ b. cond b n 0) (lt-ltb o (suc m) (omega arith)))
      before (inr le) = after (cases_eq o m) le

rows_on-same : (rows : ℕ → List (List ℕ)) (numbers own : ℕ → List ℕ) (k machines : ℕ) → k ≤ machines → ((m : ℕ) → m < machines → numbers m ≡ own m)
    → rows_on rows numbers k ≡ rows_on rows own k
rows_on-same rows numbers own zero machines most same = refl
rows_on-same rows numbers own (suc m) machines most same =
    ap₂ (λ xs ns. xs ++ flat_map rows ns) (rows_on-same rows numbers own m machines (omega arith) same) (same m (omega arith))

all-own : (owners : List ℕ) (m most k n : ℕ) → k + n ≤ most
    → AllByRecursion (λ i. (i < most) × (slice_index owners i ≡ m)) (filter (λ i. slice_index owners i == m) (range_with_len k n))
all-own owners m most k zero le = tt
all-own owners m most k (suc n) le = at_answer (slice_index owners k == m) refl (all-own owners m most (k + 1) n (omega arith)) where
  at_answer : (b : Bool) → (slice_index owners k == m) ≡ b
      → AllByRecursion (λ i. (i < most) × (slice_index owners i ≡ m)) (filter (λ i. slice_index owners i == m) (range_with_len (k + 1) n))
      → AllByRecursion (λ i. (i < most) × (slice_index owners i ≡ m))
      (cond b (k ∷ filter (λ i. slice_index owners i == m) (range_with_len (k + 1) n)) (filter (λ i. slice_index owners i == m) (range_with_len (k + 1) n)))
  at_answer true is later = ((omega arith, eqb-true (slice_index owners k) m is), later)
  at_answer false is later = later

all-range : (most k n : ℕ) → k + n ≤ most → AllByRecursion (λ i. i < most) (range_with_len k n)
all-range most k zero le = tt
all-range most k (suc n) le = (omega arith, all-range most (k + 1) n (omega arith))

All-map : (P R : ℕ → Type 0) (xs : List ℕ) → ((x : ℕ) → P x → R x) → AllByRecursion P xs → AllByRecursion R xs
All-map P R [] each all = tt
All-map P R (x ∷ xs) each all = (each x all.0, All-map P R xs each all.1)

pub get-range : {X : Type 0} (f : ℕ → X) (k n j : ℕ) → j < n → slice_get (map f (range_with_len k n)) j ≡ Some (f (k + j))
get-range f k zero j below = absurd (omega arith)
get-range f k (suc n) zero below = ap (λ i. Some (f i)) (let e : k ≡ k + 0 = omega arith in e)
get-range f k (suc n) (suc j) below = get-range f (k + 1) n j (omega arith) ∙ ap (λ i. Some (f i)) (let e : k + 1 + j ≡ k + suc j = omega arith in e)

leaves-from : (tree : Tree) (n m : ℕ) (c : Context) → tree.stages ≡ n → leaves tree 0 m c ≡ leaves_within tree n 0 m c
unfolding leaves
leaves-from tree n m c is = ap (λ k. leaves_within tree k 0 m c) (let e : tree.stages - 0 ≡ n = omega arith in e)

pub length-stages : (q : Query) (w : Walk) (hops : List Hop) → length (stages_from q w hops) ≡ length hops
length-stages q w [] = refl
length-stages q w (h ∷ hops) = ap suc (length-stages q (walk_after q w h) hops)

pub leaves_are_all : LeavesAreAll
leaves_are_all texts g q o machines some is_owner ends few_vertices few_edges shown formed narrow told =
    let vertices : ℕ = length g.vertices in
    let owners = owners_in o vertices machines in
    let over = over_parts texts g q o machines in
    let tree = tree_of over in
    let whole = plans_are_whole q formed in
    let path = whole.path in
    let ms = moves_from q (rooted q 0) path in
    let rows : ℕ → List (List ℕ) = λ i. rows_of texts g q ms (set (unbound q) 0 i) in
    let own : ℕ → List ℕ = λ m. filter (λ i. slice_index owners i == m) (range_with_len 0 vertices) in
    let room : HasRoom q = narrow in
    let all : length owners ≡ vertices = length-map-range_with_len (λ v. machine_of o vertices machines v) 0 vertices in
    let owner_is : (n : ℕ) → n < vertices → slice_index owners n < machines = λ n below. owned-in o vertices machines n some is_owner below in
    let parts_are : (m : ℕ) → m < machines → slice_get over.parts m ≡ Some (part_with owners machines g m) = λ m below.
    get-range (λ m. part_of g o machines m) 0 machines m below ∙ ap (λ k. Some (part_of g o machines k)) (let e : 0 + m ≡ m = omega arith in e) in
    let named : (p : ℕ) (x : Capture) → slice_get q.captures p ≡ Some x → x.variable < length q.variables = λ p x found.
    all-get (λ (c : Capture). c.variable < length q.variables) q.captures p x (wellness q formed).captures_name found in
    let moves_are : moves_of q (hops_of q) ≡ Start 0 ∷ ms = ap (moves_of q) whole.begins in
    let ordered : IsOrdered q (replicate (length q.variables) false) (Start 0 ∷ ms) =
    subst (IsOrdered q (replicate (length q.variables) false)) moves_are whole.asks.in_order in
    let free = ordered.0 in
    let low : 0 < length q.variables = subst (λ n. 0 < n) (length-same (length q.variables) false) free.is_there in
    let stages_are : over.plan.stages ≡ stages_from q (rooted q 0) path = ap (stages_of q) whole.begins in
    let count : tree.stages ≡ length path = ap length stages_are ∙ length-stages q (rooted q 0) path in
    let numbers_are : (m : ℕ) → m < machines → numbers_on over m ≡ own m = λ m below.
    ap numbers_of (parts_are m below) ∙ numbers-are owners m 0 g.vertices in
    let root : (m n : ℕ) → m < machines → (n < vertices) × (slice_index owners n ≡ m) → Lead g q (leaves tree 0 m (root_of n)) (rows n) = λ m n below here.
    let c = set (unbound q) 0 n in
    let at_root : at c 0 ≡ n = get_or-set_same (unbound q) 0 n 0 (subst (λ k. 0 < k) (sym (length-same {X = ℕ} (length q.variables) 0)) low) in
    let inside : at c 0 < vertices = subst (λ k. k < vertices) (sym at_root) here.0 in
    let owns : slice_index owners (at c 0) ≡ m = ap (slice_index owners) at_root ∙ here.1 in
    let range = range_of_free g q (replicate (length q.variables) false) (unbound q) false 0 (IsWithin-unbound g q.variables) free in
    let stands : Stands g q owners (rooted q 0) m c = record {
      sizes = length-set (unbound q) 0 n ∙ length-same {X = ℕ} (length q.variables) 0;
      knowns = length-same (length q.variables) false;
      current_in = inside;
      current_own = owns;
      arriving = record { is_there = low; is_vertex = free.kind; in_graph = inside; own = owns };
      within = IsWithin-bind (replicate (length q.variables) false) (unbound q) (ranges_of g q.variables) 0 n (IsWithin-unbound g q.variables)
          (subst (λ r. n < r) (sym range) here.0);
    } in
    subst (λ xs. Lead g q xs (rows n)) (sym (leaves-from tree (length path) m (root_of n) count))
    (lead texts g q owners machines over.plan over.parts ends shown told room (record { few_vertices = few_vertices; few_edges = few_edges }) all owner_is parts_are named
    path (rooted q 0) 0 m c (with_number 0 n no_words)
    (λ j. ap₂ (λ xs k. slice_get xs k) stages_are (let e : 0 + j ≡ j = omega arith in e)) whole.ends whole.names below ordered.1 stands (tells-root g q n low room)) in
    let machines_lead : Lead g q (machine_leaves tree machines) (rows_on rows (numbers_on over) machines) =
    lead-machines g q tree rows (numbers_on over) (λ m. refl) (λ m p. refl) machines machines (omega arith)
    (λ m below. subst (AllByRecursion (λ n. Lead g q (leaves tree 0 m (root_of n)) (rows n))) (sym (numbers_are m below))
    (All-map (λ n. (n < vertices) × (slice_index owners n ≡ m)) (λ n. Lead g q (leaves tree 0 m (root_of n)) (rows n)) (own m)
    (λ n here. root m n below here) (all-own owners m vertices 0 vertices (omega arith)))) in
    let machine_count : tree.machines ≡ machines = length-map-range_with_len (λ m. part_of g o machines m) 0 machines in
    lead-same g q (tree_leaves tree) (rows_of texts g q (moves_of q (hops_of q)) (unbound q)) (all_matches texts g q)
    (moves_lead_to_all texts g q (moves_of q (hops_of q)) ends whole.asks)
    (subst (λ moves. Lead g q (tree_leaves tree) (rows_of texts g q moves (unbound q))) (sym moves_are)
    (lead-same g q (tree_leaves tree) (rows_on rows (numbers_on over) machines) (flat_map rows (range_with_len 0 vertices))
    (λ t. ap (count_by t) (rows_on-same rows (numbers_on over) own machines machines (omega arith) numbers_are)
    ∙ counted-on owners (range_with_len 0 vertices) rows t machines
    ∙ sum_by-each (λ i. cond (ltb (slice_index owners i) machines) (count_by t (rows i)) 0) (λ i. count_by t (rows i)) (range_with_len 0 vertices)
    (All-map (λ i. i < vertices) (λ i. cond (ltb (slice_index owners i) machines) (count_by t (rows i)) 0 ≡ count_by t (rows i)) (range_with_len 0 vertices)
    (λ i below. ap (λ b. cond b (count_by t (rows i)) 0) (lt-ltb (slice_index owners i) machines (owner_is i below)))
    (all-range vertices 0 vertices (omega arith)))
    ∙ sym (count_by-flat_map t rows (range_with_len 0 vertices)))
    (subst (λ k. Lead g q (machine_leaves tree k) (rows_on rows (numbers_on over) machines)) (sym machine_count) machines_lead)))
