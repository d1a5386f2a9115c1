-- What the moves of a plan still ask, and what may be asked.
use Rattle.std.proofs.Common.{◌≡◌, ℕ, zero, suc, ◌+◌, ◌<◌, Bool, true, false, cond, ◌||◌, eqb, List, [], ◌∷◌, length, map, get_or, set, Option, Some, None}
use Rattle.std.proofs.Common.{MatchOption, refl, sym, ap, ap₂, ◌∙◌, arith}
use Rattle.std.specs.Prelude.{slice_get}
use Rattle.std.specs.List.{AllByRecursion, list_all, range_with_len}
use Rattle.std.proofs.lemmas.Bool.{and_parts, and_from, eqb-true}
use Rattle.match_context.specs.Bags.{total}
use Rattle.pgql_meaning.specs.Fits.{Test, Labels, Holds}
use Rattle.typed_expr.specs.Parts.{captures}
use Rattle.typed_expr.specs.WellFormed.{edges_from}
use Rattle.typed_expr.specs.declared.expr.Expr.{Expr}
use Rattle.typed_expr.specs.declared.query.Capture.{Capture}
use Rattle.typed_expr.specs.declared.query.EdgeJoin.{EdgeJoin}
use Rattle.typed_expr.specs.declared.query.Query.{Query}
use Rattle.stage_plan.specs.Front.{goes_out, has_end, other_end}
use Rattle.stage_plan.specs.Moves.{Move, IsOrdered, ask_about, ask_conjuncts, asked_by, edge_along}
use Rattle.stage_plan.specs.Walk.{Walk, conjunct_at, is_known, is_ready, is_whole, learned, still_waiting, whole, with_gains}
use Rattle.stage_plan.proofs.Sums.{filter-none, total-filter}

-- whatever is known of one list is known of the other
abbrev pub IsMore : List Bool → List Bool → Type 0
IsMore known bound = (v : ℕ) → get_or known v false ≡ true → get_or bound v false ≡ true

-- more that is known leaves an expression ready
pub ready-more : (all : List Capture) (known bound : List Bool) (x : Expr) → IsMore known bound → is_ready all known x ≡ true → is_ready all bound x ≡ true
ready-more all known bound x more = at_each (captures x) where
  at_capture : (o : Option Capture) → is_known known o ≡ true → is_known bound o ≡ true
  at_capture None known_here = refl
  at_capture (Some c) known_here = more c.variable known_here

  at_each : (places : List ℕ) → list_all (λ place. is_known known (slice_get all place)) places ≡ true
      → list_all (λ place. is_known bound (slice_get all place)) places ≡ true
  at_each [] each = refl
  at_each (p ∷ ps) each =
      let parts = and_parts (is_known known (slice_get all p)) (list_all (λ place. is_known known (slice_get all place)) ps) each in
      and_from (is_known bound (slice_get all p)) (list_all (λ place. is_known bound (slice_get all place)) ps)
      (at_capture (slice_get all p) parts.0) (at_each ps parts.1)

-- where all is known, each expression is ready
pub ready-all : (all : List Capture) (known : List Bool) (x : Expr) → AllByRecursion (λ (c : Capture). get_or known c.variable false ≡ true) all → is_ready all known x ≡ true
ready-all all known x every = at_each (captures x) where
  at_place : (cs : List Capture) (i : ℕ) → AllByRecursion (λ (c : Capture). get_or known c.variable false ≡ true) cs → is_known known (slice_get cs i) ≡ true
  at_place [] i each = refl
  at_place (c ∷ cs) zero each = each.0
  at_place (c ∷ cs) (suc i) each = at_place cs i each.1

  at_each : (places : List ℕ) → list_all (λ place. is_known known (slice_get all place)) places ≡ true
  at_each [] = refl
  at_each (p ∷ ps) = and_from (is_known known (slice_get all p)) (list_all (λ place. is_known known (slice_get all place)) ps) (at_place all p every) (at_each ps)

pub conjuncts-ordered : (q : Query) (known bound : List Bool) (numbers : List ℕ) (ms : List Move) → IsMore known bound
    → IsOrdered q bound ms → IsOrdered q bound (ask_conjuncts q (whole q known numbers) ms)
conjuncts-ordered q known bound [] ms more ordered = ordered
conjuncts-ordered q known bound (n ∷ ns) ms more ordered = at_answer (is_whole q known n) refl (conjuncts-ordered q known bound ns ms more ordered) where
  at_answer : (b : Bool) → is_whole q known n ≡ b → IsOrdered q bound (ask_conjuncts q (whole q known ns) ms)
      → IsOrdered q bound (ask_conjuncts q (cond b (n ∷ whole q known ns) (whole q known ns)) ms)
  at_answer true ready later = (ready-more q.captures known bound (conjunct_at q n) more ready, later)
  at_answer false ready later = later

-- a variable on which one arrives is bound
abbrev pub IsArrival : List Bool → Option ℕ → Type 0
IsArrival bound o = MatchOption o (Unit {0}) (λ v. get_or bound v false ≡ true)

pub about-ordered : (q : Query) (w : Walk) (o : Option ℕ) (bound : List Bool) (ms : List Move) → IsArrival bound o → IsMore (learned o w.known) bound
    → IsOrdered q bound ms → IsOrdered q bound (ask_about q w o ms)
about-ordered q w None bound ms here more ordered = conjuncts-ordered q w.known bound w.waiting ms more ordered
about-ordered q w (Some v) bound ms here more ordered = (here, conjuncts-ordered q (set w.known v true) bound w.waiting ms more ordered)

-- what some conjuncts count for
abbrev pub conjuncts_owed : (Test → ℕ) → Query → List ℕ → ℕ
conjuncts_owed f q numbers = total (λ n. f (Holds (conjunct_at q n))) numbers

abbrev pub label_owed : (Test → ℕ) → Option ℕ → ℕ
label_owed f None = 0
label_owed f (Some v) = f (Labels v)

asked-conjuncts : (f : Test → ℕ) (q : Query) (numbers : List ℕ) (ms : List Move)
    → total f (asked_by (ask_conjuncts q numbers ms)) ≡ conjuncts_owed f q numbers + total f (asked_by ms)
asked-conjuncts f q [] ms = omega arith
asked-conjuncts f q (n ∷ ns) ms = let later = asked-conjuncts f q ns ms in omega arith

-- what is asked where captures become known, and what waits then, is what waited before
pub asked-about : (f : Test → ℕ) (q : Query) (w : Walk) (o : Option ℕ) (ms : List Move)
    → total f (asked_by (ask_about q w o ms)) + conjuncts_owed f q (with_gains q w o).waiting
    ≡ label_owed f o + (conjuncts_owed f q w.waiting + total f (asked_by ms))
asked-about f q w None ms =
    let parts = total-filter (λ n. f (Holds (conjunct_at q n))) (is_whole q w.known) w.waiting in
    let asked = asked-conjuncts f q (whole q w.known w.waiting) ms in
    omega arith
asked-about f q w (Some v) ms =
    let known = set w.known v true in
    let parts = total-filter (λ n. f (Holds (conjunct_at q n))) (is_whole q known) w.waiting in
    let asked = asked-conjuncts f q (whole q known w.waiting) ms in
    omega arith

-- where all is known nothing waits
pub waiting-none : (q : Query) (known : List Bool) (numbers : List ℕ) → AllByRecursion (λ (c : Capture). get_or known c.variable false ≡ true) q.captures
    → still_waiting q known numbers ≡ []
waiting-none q known numbers every = filter-none (is_whole q known) numbers (λ n. ready-all q.captures known (conjunct_at q n) every)

-- the labels of the vertices that aren't bound yet, numbered from k
abbrev pub labels_owed : (Test → ℕ) → ℕ → List Bool → List Bool → ℕ
labels_owed f k [] edges = 0
labels_owed f k (b ∷ bound) [] = 0
labels_owed f k (b ∷ bound) (e ∷ edges) = cond b 0 (cond e 0 (f (Labels k))) + labels_owed f (k + 1) bound edges

-- an edge that is bound owes no vertex's label
pub labels_owed-edge : (f : Test → ℕ) (k : ℕ) (bound edges : List Bool) (e : ℕ) → get_or edges e false ≡ true
    → labels_owed f k (set bound e true) edges ≡ labels_owed f k bound edges
labels_owed-edge f k [] edges e kind = refl
labels_owed-edge f k (b ∷ bound) [] zero kind = refl
labels_owed-edge f k (b ∷ bound) [] (suc e) kind = refl
labels_owed-edge f k (b ∷ bound) (x ∷ edges) zero kind = at_answer b where
  at_answer : (b : Bool) → 0 + labels_owed f (k + 1) bound edges ≡ cond b 0 (cond x 0 (f (Labels k))) + labels_owed f (k + 1) bound edges
  at_answer true = refl
  at_answer false = sym (ap (λ c. cond c 0 (f (Labels k)) + labels_owed f (k + 1) bound edges) kind)
labels_owed-edge f k (b ∷ bound) (x ∷ edges) (suc e) kind =
    ap (λ n. cond b 0 (cond x 0 (f (Labels k))) + n) (labels_owed-edge f (k + 1) bound edges e kind)

-- a vertex that is bound owes its own label no more
pub labels_owed-vertex : (f : Test → ℕ) (k : ℕ) (bound edges : List Bool) (v : ℕ) → v < length edges → v < length bound
    → get_or edges v false ≡ false → get_or bound v true ≡ false
    → labels_owed f k bound edges ≡ f (Labels (k + v)) + labels_owed f k (set bound v true) edges
labels_owed-vertex f k [] edges v below inside kind free = absurd (omega arith)
labels_owed-vertex f k (b ∷ bound) [] v below inside kind free = absurd (omega arith)
labels_owed-vertex f k (b ∷ bound) (x ∷ edges) zero below inside kind free =
    let here = ap₂ (λ c d. cond c 0 (cond d 0 (f (Labels k))) + labels_owed f (k + 1) bound edges) free kind in
    let place : f (Labels k) ≡ f (Labels (k + 0)) = ap (λ n. f (Labels n)) (let e : k ≡ k + 0 = omega arith in e) in
    omega arith
labels_owed-vertex f k (b ∷ bound) (x ∷ edges) (suc v) below inside kind free =
    let here : ℕ = cond b 0 (cond x 0 (f (Labels k))) in
    let later = labels_owed-vertex f (k + 1) bound edges v (omega arith) (omega arith) kind free in
    let place : f (Labels (k + 1 + v)) ≡ f (Labels (k + suc v)) = ap (λ n. f (Labels n)) (let e : k + 1 + v ≡ k + suc v = omega arith in e) in
    ap (λ n. here + n) later ∙ moved here (f (Labels (k + 1 + v))) (f (Labels (k + suc v))) (labels_owed f (k + 1) (set bound v true) edges) place
  where
    moved : (a b c d : ℕ) → b ≡ c → a + (b + d) ≡ c + (a + d)
    moved a b c d same = omega arith

pub labels_owed-none : (f : Test → ℕ) (k : ℕ) (bound edges : List Bool) → list_all (λ b. b) bound ≡ true → labels_owed f k bound edges ≡ 0
labels_owed-none f k [] edges all = refl
labels_owed-none f k (b ∷ bound) [] all = refl
labels_owed-none f k (b ∷ bound) (x ∷ edges) all =
    let parts = and_parts b (list_all (λ c. c) bound) all in
    ap₂ (λ c d. cond c 0 (cond x 0 (f (Labels k))) + d) parts.0 (labels_owed-none f (k + 1) bound edges parts.1)

abbrev pub all_free : List Bool → List Bool
all_free edges = map (λ e. false) edges

-- each variable's label is a vertex's or an edge's
pub labels-all : (f : Test → ℕ) (k : ℕ) (edges : List Bool)
    → total (λ v. f (Labels v)) (range_with_len k (length edges)) ≡ labels_owed f k (all_free edges) edges + total (λ v. f (Labels v)) (edges_from k edges)
labels-all f k [] = refl
labels-all f k (true ∷ edges) = let later = labels-all f (k + 1) edges in omega arith
labels-all f k (false ∷ edges) = let later = labels-all f (k + 1) edges in omega arith

-- the edge that one goes along from one of its ends is the edge itself
pub edge_along-end : (j : EdgeJoin) (v : ℕ) → has_end j v ≡ true → edge_along (goes_out j v) v j.edge (other_end j v) ≡ j
edge_along-end j v ends = at_answer (eqb j.source v) refl ends where
  at_answer : (b : Bool) → eqb j.source v ≡ b → (b || eqb j.target v) ≡ true
      → edge_along b v j.edge (cond b j.target j.source) ≡ j
  at_answer true is here = ap (λ n. record { edge = j.edge; source = n; target = j.target }) (sym (eqb-true j.source v is))
  at_answer false is here = ap (λ n. record { edge = j.edge; source = j.source; target = n }) (sym (eqb-true j.target v here))
