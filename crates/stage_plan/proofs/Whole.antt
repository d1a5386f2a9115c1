-- The hops of a query are whole: in order, complete, and nothing twice.
use Rattle.std.proofs.Common.{◌≡◌, ℕ, zero, suc, ◌+◌, ◌*◌, ◌<◌, ◌≤◌, Bool, true, false, cond, ◌&&◌, ◌||◌, eqb, List, [], ◌∷◌, ◌++◌, length, map, get_or, set, replicate, Option, Some, None}
use Rattle.std.proofs.Common.{option_map, refl, sym, ap, ap₂, ◌∙◌, subst, arith, true≢false, ⊎_elim, length-set, get_or-set_same, get_or-set_other}
use Rattle.std.specs.Option.{option_or}
use Rattle.std.specs.List.{AllByRecursion, list_all, list_any, range_with_len}
use Rattle.std.proofs.lemmas.Bool.{and_parts, or_parts, cases_Bool, eq-eqb, true_from_ne_false, or_right}
use Rattle.std.proofs.lemmas.List.{get_or_default, length-map}
use Rattle.match_context.specs.Bags.{total}
use Rattle.pgql_meaning.specs.Fits.{Test, Labels, Joined, Holds}
use Rattle.typed_expr.specs.WellFormed.{are_edges, edge_variables}
use Rattle.typed_expr.specs.declared.query.Capture.{Capture}
use Rattle.typed_expr.specs.declared.query.EdgeJoin.{EdgeJoin}
use Rattle.typed_expr.specs.declared.query.Query.{Query}
use Rattle.stage_plan.specs.declared.hop.Hop.{Hop}
use Rattle.stage_plan.specs.declared.hop.Hop.TheVariants as hop
use Rattle.stage_plan.specs.Front.{Front, bound_end, closes, goes_out, has_end, is_bound, other_end, pick, reaches, touches}
use Rattle.stage_plan.specs.Hops.{and_on, close, first_front, hops_from, most_hops, reach, turn}
use Rattle.stage_plan.specs.Laws.{AreNamed, EndsWithOutput, IsVertexOf, IsWhole, PlansAreWhole}
use Rattle.stage_plan.specs.Moves.{Close, Go, IsOrdered, ask_about, asked_by, edge_along, is_edge, moves_from}
use Rattle.stage_plan.specs.Walk.{Walk, arrived, learned, no_conjunct, rooted, walk_after, with_gains}
use Rattle.stage_plan.proofs.Owed.{IsArrival, about-ordered, all_free, asked-about, conjuncts_owed, edge_along-end, label_owed, labels-all, labels_owed, labels_owed-edge}
use Rattle.stage_plan.proofs.Owed.{labels_owed-none, labels_owed-vertex, waiting-none}
use Rattle.stage_plan.proofs.Picks.{All-picked, none_picked, picked}
use Rattle.stage_plan.proofs.Sums.{All-map, total-append, total-both, total-map}
use Rattle.stage_plan.proofs.Walks.{IsLeft, StandTogether, arrival_there, close_end, in_range, kinds_differ, other_free, other_vertex, set_more, together-close, together-reach, together-turn}
use Rattle.stage_plan.proofs.Wellness.{IsEdgeOf, IsNamed, SameEnds, Wellness, wellness}

abbrev edges_owed : (Test → ℕ) → List EdgeJoin → ℕ
edges_owed f left = total (λ (j : EdgeJoin). f (Joined j) + f (Labels j.edge)) left

-- what the moves from here on must ask
abbrev owed : (Test → ℕ) → Query → Walk → Front → ℕ
owed f q w front = label_owed f w.arriving + (conjuncts_owed f q w.waiting + (edges_owed f front.left + labels_owed f 0 front.bound (are_edges q)))

record Goes (q : Query) (w : Walk) (front : Front) (hops : List Hop) : Type 0 where
  ends : EndsWithOutput hops
  names : AreNamed q w hops
  ordered : IsOrdered q (learned w.arriving w.known) (moves_from q w hops)
  asked : (f : Test → ℕ) → total f (asked_by (moves_from q w hops)) ≡ owed f q w front

-- how many hops may still come
abbrev still : Front → ℕ
still front = 2 * length front.left + cond (list_any (reaches front) front.left) 0 1

count_of : (q : Query) → length (are_edges q) ≡ length q.variables
count_of q = length-map q.variables (λ variable. variable.edge)

-- at the end nothing is left
left_empty : (q : Query) (front : Front) (left : List EdgeJoin) → AllByRecursion (λ (j : EdgeJoin). touches front j ≡ false) left
    → AllByRecursion (IsLeft q front.bound) left → ((v : ℕ) → IsVertexOf q v → get_or front.bound v false ≡ true) → left ≡ []
left_empty q front [] none fit all = refl
left_empty q front (j ∷ js) none fit all =
    absurd (true≢false (sym (all j.source fit.0.0.source) ∙ (or_parts (is_bound front j.source) (is_bound front j.target) none.0).0))

all_bound : (bound : List Bool) → ((v : ℕ) → v < length bound → get_or bound v false ≡ true) → list_all (λ b. b) bound ≡ true
all_bound [] every = refl
all_bound (b ∷ bound) every =
    ap₂ (λ x y. x && y) (every 0 (omega arith)) (all_bound bound (λ v below. every (suc v) (omega arith)))

at_end : (q : Query) (w : Walk) (front : Front) → Wellness q → StandTogether q w front → pick (touches front) front.left ≡ None → Goes q w front (hop.Output ∷ [])
at_end q w front well together none =
    let untouched = none_picked (touches front) front.left none in
    let unlike : AllByRecursion (SameEnds (is_bound front)) front.left =
    All-map (λ (j : EdgeJoin). touches front j ≡ false) (SameEnds (is_bound front)) front.left
    (λ j no. let parts = or_parts (is_bound front j.source) (is_bound front j.target) no in parts.0 ∙ sym parts.1) untouched in
    let vertices : (v : ℕ) → IsVertexOf q v → get_or front.bound v false ≡ true =
    well.connected (is_bound front) together.first_bound (together.closes_all (is_bound front) (λ v here. here) unlike) in
    let empty : front.left ≡ [] = left_empty q front front.left untouched together.left_fit vertices in
    let edges : (e : ℕ) → IsEdgeOf q e → get_or front.bound e false ≡ true =
    λ e edge. true_from_ne_false (get_or front.bound e false) (λ free.
    true≢false (sym (together.edges_left e edge free) ∙ ap (list_any (λ (j : EdgeJoin). eqb j.edge e)) empty)) in
    let each : (v : ℕ) → v < length q.variables → get_or front.bound v false ≡ true =
    λ v below. ⊎_elim (λ kind. edges v (below, kind)) (λ kind. vertices v (below, kind)) (cases_Bool (is_edge q v)) in
    let all : list_all (λ b. b) front.bound ≡ true = all_bound front.bound (λ v below. each v (subst (λ n. v < n) together.sizes below)) in
    let known : AllByRecursion (λ (c : Capture). get_or (learned w.arriving w.known) c.variable false ≡ true) q.captures =
    All-map (λ (c : Capture). c.variable < length q.variables) (λ (c : Capture). get_or (learned w.arriving w.known) c.variable false ≡ true) q.captures
    (λ c below. ap (λ m. get_or m c.variable false) together.mask ∙ each c.variable below) well.captures_name in
    record {
      ends = tt;
      names = ((arrival_there q front.bound w.arriving together.sizes together.arriving_bound, (subst (λ v. v < length q.variables) (sym together.at_current) together.current_vertex.0, tt)), tt);
      ordered = about-ordered q w w.arriving (learned w.arriving w.known) []
          (subst (λ m. IsArrival m w.arriving) (sym together.mask) together.arriving_bound) (λ v here. here)
          (subst (λ m. list_all (λ b. b) m ≡ true) (sym together.mask) all);
      asked = λ f.
          let about = asked-about f q w w.arriving [] in
          let waits : conjuncts_owed f q (with_gains q w w.arriving).waiting ≡ 0 = ap (conjuncts_owed f q) (waiting-none q (learned w.arriving w.known) w.waiting known) in
          let no_edges : edges_owed f front.left ≡ 0 = ap (edges_owed f) empty in
          let no_labels = labels_owed-none f 0 front.bound (are_edges q) all in
          omega arith;
    }

goes-close : (q : Query) (w : Walk) (front : Front) (j : EdgeJoin) (rest : List EdgeJoin) (hops : List Hop) → StandTogether q w front
    → pick (closes front) front.left ≡ Some (j, rest)
    → Goes q (walk_after q w (close front (j, rest)).0) (close front (j, rest)).1 hops → Goes q w front ((close front (j, rest)).0 ∷ hops)
goes-close q w front j rest hops together is later =
    let it = picked (closes front) front.left j rest is in
    let ends = (and_parts (has_end j front.current) (is_bound front j.source && is_bound front j.target) it.passes).0 in
    let split = All-picked (IsLeft q front.bound) (closes front) front.left j rest is together.left_fit in
    let e : ℕ = j.edge in
    let y : ℕ = other_end j front.current in
    let out : Bool = goes_out j front.current in
    let mask = learned w.arriving w.known in
    let low : e < length mask = subst (λ n. e < n) (sym together.sizes ∙ ap length (sym together.mask)) split.0.0.edge.0 in
    let free_e : get_or mask e true ≡ false =
    get_or_default mask e true false low ∙ ap (λ m. get_or m e false) together.mask ∙ split.0.1 in
    let y_bound : get_or front.bound y false ≡ true = close_end front j it.passes in
    let next = walk_after q w (close front (j, rest)).0 in
    let moves = moves_from q next hops in
    let here = arrived q w in
    record {
      ends = later.ends;
      names = (
        (
          arrival_there q front.bound w.arriving together.sizes together.arriving_bound,
          (subst (λ v. v < length q.variables) (sym together.at_current) together.current_vertex.0, (split.0.0.edge.0, other_vertex q j front.current split.0.0)),
        ),
        later.names,
      );
      ordered =
          about-ordered q w w.arriving mask (Close out w.current e y ∷ ask_about q here (Some e) moves)
          (subst (λ m. IsArrival m w.arriving) (sym together.mask) together.arriving_bound) (λ v is_known. is_known) (
            (
              ap₂ (λ m v. get_or m v false) together.mask together.at_current ∙ together.current_bound,
              (record { is_there = low; not_bound = free_e; kind = split.0.0.edge.1 }, ap (λ m. get_or m y false) together.mask ∙ y_bound),
            ),
            about-ordered q here (Some e) (set mask e true) moves (get_or-set_same mask e true false low) (λ v is_known. is_known) later.ordered,
          );
      asked = λ f.
          let about = asked-about f q w w.arriving (Close out w.current e y ∷ ask_about q here (Some e) moves) in
          let along = asked-about f q here (Some e) moves in
          let after = later.asked f in
          let same : f (Joined (edge_along out w.current e y)) ≡ f (Joined j) =
          ap (λ t. f (Joined t)) (ap (λ v. edge_along out v e y) together.at_current ∙ edge_along-end j front.current ends) in
          let edges = it.total_of (λ (k : EdgeJoin). f (Joined k) + f (Labels k.edge)) in
          let labels = labels_owed-edge f 0 front.bound (are_edges q) e split.0.0.edge.1 in
          omega arith;
    }

goes-reach : (q : Query) (w : Walk) (front : Front) (j : EdgeJoin) (rest : List EdgeJoin) (hops : List Hop) → StandTogether q w front
    → pick (reaches front) front.left ≡ Some (j, rest) → get_or front.bound (other_end j front.current) false ≡ false
    → Goes q (walk_after q w (reach front (j, rest)).0) (reach front (j, rest)).1 hops → Goes q w front ((reach front (j, rest)).0 ∷ hops)
goes-reach q w front j rest hops together is free_here later =
    let it = picked (reaches front) front.left j rest is in
    let split = All-picked (IsLeft q front.bound) (reaches front) front.left j rest is together.left_fit in
    let vertex = other_vertex q j front.current split.0.0 in
    let e : ℕ = j.edge in
    let y : ℕ = other_end j front.current in
    let out : Bool = goes_out j front.current in
    let mask = learned w.arriving w.known in
    let low : e < length mask = subst (λ n. e < n) (sym together.sizes ∙ ap length (sym together.mask)) split.0.0.edge.0 in
    let free_e : get_or mask e true ≡ false =
    get_or_default mask e true false low ∙ ap (λ m. get_or m e false) together.mask ∙ split.0.1 in
    let apart : y ≡ e → ⊥ = kinds_differ q e y split.0.0.edge vertex in
    let low_y : y < length (set mask e true) =
    subst (λ n. y < n) (sym together.sizes ∙ ap length (sym together.mask) ∙ sym (length-set mask e true)) vertex.0 in
    let free_y : get_or (set mask e true) y true ≡ false =
    get_or_default (set mask e true) y true false low_y ∙ get_or-set_other mask e y true false apart
    ∙ ap (λ m. get_or m y false) together.mask ∙ free_here in
    let next = walk_after q w (reach front (j, rest)).0 in
    let moves = moves_from q next hops in
    let here = arrived q w in
    let low_f : y < length (set front.bound e true) = subst (λ n. y < n) (sym (length-set front.bound e true ∙ together.sizes)) vertex.0 in
    let free_f : get_or (set front.bound e true) y true ≡ false =
    get_or_default (set front.bound e true) y true false low_f ∙ get_or-set_other front.bound e y true false apart ∙ free_here in
    record {
      ends = later.ends;
      names = (
        (
          arrival_there q front.bound w.arriving together.sizes together.arriving_bound,
          (subst (λ v. v < length q.variables) (sym together.at_current) together.current_vertex.0, (split.0.0.edge.0, vertex)),
        ),
        later.names,
      );
      ordered =
          about-ordered q w w.arriving mask (Go out w.current e y ∷ ask_about q here (Some e) moves)
          (subst (λ m. IsArrival m w.arriving) (sym together.mask) together.arriving_bound) (λ v is_known. is_known) (
            (
              ap₂ (λ m v. get_or m v false) together.mask together.at_current ∙ together.current_bound,
              (record { is_there = low; not_bound = free_e; kind = split.0.0.edge.1 }, record { is_there = low_y; not_bound = free_y; kind = vertex.1 }),
            ),
            about-ordered q here (Some e) (set (set mask e true) y true) moves (set_more (set mask e true) y e (get_or-set_same mask e true false low))
                (λ v is_known. set_more (set mask e true) y v is_known) later.ordered,
          );
      asked = λ f.
          let about = asked-about f q w w.arriving (Go out w.current e y ∷ ask_about q here (Some e) moves) in
          let along = asked-about f q here (Some e) moves in
          let after = later.asked f in
          let same : f (Joined (edge_along out w.current e y)) ≡ f (Joined j) =
          ap (λ t. f (Joined t)) (ap (λ v. edge_along out v e y) together.at_current ∙ edge_along-end j front.current it.passes) in
          let edges = it.total_of (λ (k : EdgeJoin). f (Joined k) + f (Labels k.edge)) in
          let labels = labels_owed-edge f 0 front.bound (are_edges q) e split.0.0.edge.1 in
          let label = labels_owed-vertex f 0 (set front.bound e true) (are_edges q) y (subst (λ n. y < n) (sym (count_of q)) vertex.0) low_f vertex.1 free_f in
          let place : f (Labels (0 + y)) ≡ f (Labels y) = ap (λ n. f (Labels n)) (let same : 0 + y ≡ y = omega arith in same) in
          omega arith;
    }

goes-turn : (q : Query) (w : Walk) (front : Front) (j : EdgeJoin) (rest : List EdgeJoin) (hops : List Hop) → StandTogether q w front
    → IsVertexOf q (bound_end front j) → get_or front.bound (bound_end front j) false ≡ true
    → Goes q (walk_after q w (turn front (j, rest)).0) (turn front (j, rest)).1 hops → Goes q w front ((turn front (j, rest)).0 ∷ hops)
goes-turn q w front j rest hops together there is_bound later =
    let moves = moves_from q (walk_after q w (turn front (j, rest)).0) hops in
    record {
      ends = later.ends;
      names = (
        (
          arrival_there q front.bound w.arriving together.sizes together.arriving_bound,
          (
            subst (λ v. v < length q.variables) (sym together.at_current) together.current_vertex.0,
            (there, ap (λ m. get_or m (bound_end front j) false) together.mask ∙ is_bound),
          ),
        ),
        later.names,
      );
      ordered = about-ordered q w w.arriving (learned w.arriving w.known) moves
          (subst (λ m. IsArrival m w.arriving) (sym together.mask) together.arriving_bound) (λ v is_known. is_known) later.ordered;
      asked = λ f.
          let about = asked-about f q w w.arriving moves in
          let after = later.asked f in
          omega arith;
    }

still_some : (front : Front) (left : List EdgeJoin) → 2 * length left + cond (list_any (reaches front) left) 0 1 ≤ 0 → ⊥
still_some front [] le = omega arith
still_some front (j ∷ js) le = omega arith

or_some : (t : Bool) → (b : Bool) → t ≡ true → (t || b) ≡ true
or_some t b is = ap (λ x. x || b) is

-- fewer hops may still come after each
still-one_less : (front front' : Front) (n : ℕ) → length front.left ≡ suc (length front'.left) → still front ≤ suc n → still front' ≤ n
still-one_less front front' n shorter le = at_most (list_any (reaches front') front'.left) (list_any (reaches front) front.left) le where
  at_most : (b c : Bool) → 2 * length front.left + cond c 0 1 ≤ suc n → 2 * length front'.left + cond b 0 1 ≤ n
  at_most true true le = omega arith
  at_most true false le = omega arith
  at_most false true le = omega arith
  at_most false false le = omega arith

none-any : (p : EdgeJoin → Bool) (left : List EdgeJoin) → AllByRecursion (λ (j : EdgeJoin). p j ≡ false) left → list_any p left ≡ false
none-any p [] none = refl
none-any p (j ∷ js) none = ap₂ (λ b c. b || c) none.0 (none-any p js none.1)

still-turned : (front : Front) (j : EdgeJoin) (rest : List EdgeJoin) (n : ℕ) → pick (reaches front) front.left ≡ None → pick (touches front) front.left ≡ Some (j, rest)
    → still front ≤ suc n → still (turn front (j, rest)).1 ≤ n
still-turned front j rest n unreached is le =
    let it = picked (touches front) front.left j rest is in
    let unreachable = none-any (reaches front) front.left (none_picked (reaches front) front.left unreached) in
    let reachable : list_any (reaches (turn front (j, rest)).1) front.left ≡ true =
    it.any_of (reaches (turn front (j, rest)).1)
    ∙ or_some (has_end j (bound_end front j)) (list_any (reaches (turn front (j, rest)).1) rest) (has_bound_end (get_or front.bound j.source false)) in
    at_most (list_any (reaches front) front.left) (list_any (reaches (turn front (j, rest)).1) front.left) unreachable reachable le
  where
    has_bound_end : (b : Bool) → has_end j (cond b j.source j.target) ≡ true
    has_bound_end true = or_some (eqb j.source j.source) (eqb j.target j.source) (eq-eqb j.source j.source refl)
    has_bound_end false = or_right (eqb j.source j.target) (eqb j.target j.target) (eq-eqb j.target j.target refl)

    at_most : (b c : Bool) → b ≡ false → c ≡ true → 2 * length front.left + cond b 0 1 ≤ suc n → 2 * length front.left + cond c 0 1 ≤ n
    at_most true c is_b is_c le = absurd (true≢false is_b)
    at_most false true is_b is_c le = omega arith
    at_most false false is_b is_c le = absurd (true≢false (sym is_c))

goes : (q : Query) → Wellness q → (n : ℕ) (w : Walk) (front : Front) → StandTogether q w front → still front ≤ n → Goes q w front (hops_from n front)
goes q well zero w front together le = absurd (still_some front front.left le)
goes q well (suc n) w front together le =
    at_pick (λ w' front' together' le'. goes q well n w' front' together' le') (pick (closes front) front.left) refl (pick (reaches front) front.left) refl (pick (touches front) front.left) refl
  where
    at_pick : ((w' : Walk) (front' : Front) → StandTogether q w' front' → still front' ≤ n → Goes q w' front' (hops_from n front'))
        → (c : Option (EdgeJoin × List EdgeJoin)) → pick (closes front) front.left ≡ c → (r : Option (EdgeJoin × List EdgeJoin)) → pick (reaches front) front.left ≡ r
        → (t : Option (EdgeJoin × List EdgeJoin)) → pick (touches front) front.left ≡ t
        → Goes q w front (and_on (option_or (option_map (close front) c) (option_or (option_map (reach front) r) (option_map (turn front) t))) (hops_from n))
    at_pick later (Some x) is_c r is_r t is_t =
        goes-close q w front x.0 x.1 (hops_from n (close front x).1) together is_c
        (later (walk_after q w (close front x).0) (close front x).1 (together-close q w front x.0 x.1 together is_c)
        (still-one_less front (close front x).1 n (picked (closes front) front.left x.0 x.1 is_c).shorter le))
    at_pick later None is_c (Some x) is_r t is_t =
        let it = picked (reaches front) front.left x.0 x.1 is_r in
        let free = other_free front x.0 it.passes together.current_bound
        (All-picked (λ (j : EdgeJoin). closes front j ≡ false) (reaches front) front.left x.0 x.1 is_r (none_picked (closes front) front.left is_c)).0 in
        goes-reach q w front x.0 x.1 (hops_from n (reach front x).1) together is_r free
        (later (walk_after q w (reach front x).0) (reach front x).1 (together-reach q w front x.0 x.1 together is_r) (still-one_less front (reach front x).1 n it.shorter le))
    at_pick later None is_c None is_r (Some x) is_t =
        goes-turn q w front x.0 x.1 (hops_from n (turn front x).1) together (together-turn q w front x.0 x.1 together is_t).current_vertex (together-turn q w front x.0 x.1 together is_t).current_bound
        (later (walk_after q w (turn front x).0) (turn front x).1 (together-turn q w front x.0 x.1 together is_t) (still-turned front x.0 x.1 n is_r is_t le))
    at_pick later None is_c None is_r None is_t = at_end q w front well together is_t

length-same : (n : ℕ) → length (replicate n false) ≡ n
length-same zero = refl
length-same (suc n) = ap suc (length-same n)

get_or-false : (n v : ℕ) (d : Bool) → v < n → get_or (replicate n false) v d ≡ false
get_or-false zero v d below = absurd (omega arith)
get_or-false (suc n) zero d below = refl
get_or-false (suc n) (suc v) d below = get_or-false n v d (omega arith)

together-first : (q : Query) → Wellness q → StandTogether q (rooted q 0) (first_front (length q.variables) q.edges)
together-first q well =
    let none : List Bool = replicate (length q.variables) false in
    let size = length-same (length q.variables) in
    let first : get_or (set none 0 true) 0 false ≡ true = get_or-set_same none 0 true false (subst (λ n. 0 < n) (sym size) well.first.0) in
    record {
      mask = refl;
      sizes = length-set none 0 true ∙ size;
      at_current = refl;
      current_vertex = well.first;
      current_bound = first;
      arriving_bound = first;
      first_bound = first;
      left_fit = All-map (IsNamed q) (IsLeft q (set none 0 true)) q.edges
          (λ j named. (
            named,
            get_or-set_other none 0 j.edge true false (λ same. kinds_differ q j.edge 0 named.edge well.first (sym same))
                ∙ get_or-false (length q.variables) j.edge false named.edge.0,
          )) well.edges_name;
      left_differ = well.edges_differ;
      edges_left = λ e edge _. well.edges_are_joined e edge;
      closes_all = λ s _ same. same;
    }

-- all variables are free at first
free-all : {X : Type 0} (edge : X → Bool) (xs : List X) → replicate (length xs) false ≡ all_free (map edge xs)
free-all edge [] = refl
free-all edge (x ∷ xs) = ap (λ bs. false ∷ bs) (free-all edge xs)

-- a list by its places
places : {X : Type 0} (xs : List X) (d : X) (f : X → ℕ) (k : ℕ) (from : List X) → length from ≡ k
    → total (λ n. f (get_or (from ++ xs) n d)) (range_with_len k (length xs)) ≡ total f xs
places [] d f k from is = refl
places {X = X} (x ∷ xs) d f k from is =
    let here = ap f (at_front from) in
    let same : total (λ n. f (get_or (from ++ x ∷ xs) n d)) (range_with_len (k + 1) (length xs)) ≡ total f xs =
    ap (λ ys. total (λ n. f (get_or ys n d)) (range_with_len (k + 1) (length xs))) (shifted from) ∙ places xs d f (k + 1) (from ++ x ∷ []) (longer from ∙ ap (λ n. n + 1) is) in
    ap₂ (λ a b. a + b) (ap (λ n. f (get_or (from ++ x ∷ xs) n d)) (sym is) ∙ here) same
  where
    at_front : (ys : List X) → get_or (ys ++ x ∷ xs) (length ys) d ≡ x
    at_front [] = refl
    at_front (y ∷ ys) = at_front ys

    shifted : (ys : List X) → ys ++ x ∷ xs ≡ (ys ++ x ∷ []) ++ xs
    shifted [] = refl
    shifted (y ∷ ys) = ap (λ zs. y ∷ zs) (shifted ys)

    longer : (ys : List X) → length (ys ++ x ∷ []) ≡ length ys + 1
    longer [] = refl
    longer (y ∷ ys) = let later = longer ys in omega arith

conjuncts_all : (f : Test → ℕ) (q : Query) → conjuncts_owed f q (range_with_len 0 (length q.conjuncts)) ≡ total f (map Holds q.conjuncts)
conjuncts_all f q = places q.conjuncts no_conjunct (λ x. f (Holds x)) 0 [] refl ∙ sym (total-map f Holds q.conjuncts)

pub plans_are_whole : PlansAreWhole
plans_are_whole q formed =
    let well = wellness q formed in
    let none : List Bool = replicate (length q.variables) false in
    let n : ℕ = most_hops q.edges in
    let front = first_front (length q.variables) q.edges in
    let path = hops_from n front in
    let it = goes q well n (rooted q 0) front (together-first q well) (enough (list_any (reaches front) q.edges)) in
    let size = length-same (length q.variables) in
    let inside : 0 < length none = subst (λ n. 0 < n) (sym size) well.first.0 in
    let free : get_or none 0 true ≡ false = get_or-false (length q.variables) 0 true well.first.0 in
    record {
      path = path;
      begins = refl;
      ends = it.ends;
      names = it.names;
      asks = record {
        in_order = (record { is_there = inside; not_bound = free; kind = well.first.1 }, it.ordered);
        each_once = λ f.
            let asked = it.asked f in
            let first = labels_owed-vertex f 0 none (are_edges q) 0 (subst (λ n. 0 < n) (sym (count_of q)) well.first.0) inside well.first.1 free in
            let labels = labels-all f 0 (are_edges q) in
            let free_labels : labels_owed f 0 none (are_edges q) ≡ labels_owed f 0 (all_free (are_edges q)) (are_edges q) =
            ap (λ b. labels_owed f 0 b (are_edges q)) (free-all (λ variable. variable.edge) q.variables) in
            let numbers : total (λ v. f (Labels v)) (range_with_len 0 (length (are_edges q))) ≡ total f (map Labels (range_with_len 0 (length q.variables))) =
            ap (λ n. total (λ v. f (Labels v)) (range_with_len 0 n)) (count_of q) ∙ sym (total-map f Labels (range_with_len 0 (length q.variables))) in
            let edge_labels : total (λ (j : EdgeJoin). f (Labels j.edge)) q.edges ≡ total (λ v. f (Labels v)) (edge_variables q) =
            sym (total-map (λ v. f (Labels v)) (λ (j : EdgeJoin). j.edge) q.edges) ∙ ap (total (λ v. f (Labels v))) formed.edges_are_joined in
            let joins = total-map f Joined q.edges in
            let conjuncts = conjuncts_all f q in
            let both = total-both (λ (j : EdgeJoin). f (Joined j)) (λ (j : EdgeJoin). f (Labels j.edge)) q.edges in
            let outer = total-append f (map Labels (range_with_len 0 (length q.variables))) (map Joined q.edges ++ map Holds q.conjuncts) in
            let inner = total-append f (map Joined q.edges) (map Holds q.conjuncts) in
            omega arith;
      };
    }
  where
    enough : (b : Bool) → 2 * length q.edges + cond b 0 1 ≤ 2 * length q.edges + 1
    enough true = omega arith
    enough false = omega arith
