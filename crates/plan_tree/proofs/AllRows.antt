-- A plan's moves lead to all assignments that fit.
use Rattle.std.proofs.Common.{◌≡◌, ℕ, zero, suc, ◌+◌, ◌<◌, Bool, true, false, cond, ◌&&◌, eqb, List, [], ◌∷◌, ◌++◌, length, map, get_or, set, replicate, Option, Some, None}
use Rattle.std.proofs.Common.{flat_map, refl, sym, ap, ap₂, ◌∙◌, subst, arith, true≢false, length-set}
use Rattle.std.specs.Prelude.{slice_get}
use Rattle.std.specs.Option.{option_and_then, option_map_or}
use Rattle.std.specs.List.{AllByRecursion, range_with_len, list_all}
use Rattle.std.proofs.lemmas.Bool.{lt-ltb, ne_eqb}
use Rattle.match_context.specs.Bags.{SameBag, total}
use Rattle.graph_tables.specs.Graph.{Edge, PropertyGraph}
use Rattle.pgql_meaning.specs.Assignments.{assignments, ranges_of}
use Rattle.pgql_meaning.specs.Fits.{fits, meets, runs_between, tests_of}
use Rattle.typed_expr.specs.declared.query.Query.{Query}
use Rattle.typed_expr.specs.declared.query.Variable.{Variable}
use Rattle.stage_plan.specs.Moves.{Move, Start, Go, Close, Ask, IsBound, IsOrdered, asked_by}
use Rattle.plan_tree.specs.Agreeing.{IsWithin, agrees}
use Rattle.plan_tree.specs.Laws.{MovesLeadToAll}
use Rattle.plan_tree.specs.Rows.{unbound}
use Rattle.plan_tree.proofs.Bags.{AllByRecursion-map, bit, count_by-filter, sum_by-each}
use Rattle.plan_tree.proofs.Agree.{at, length_ranges, range_at}
use Rattle.plan_tree.proofs.Edges.{leads}
use Rattle.plan_tree.proofs.RowsOf.{eqb-sym, meets_moves, rows_of-moves}

-- each number is below its range
abbrev pub AreBelow : List ℕ → List ℕ → Type 0
AreBelow [] [] = Unit {0}
AreBelow (m ∷ a) (r ∷ rs) = (m < r) × AreBelow a rs
AreBelow _ _ = ⊥

All-append : {X : Type 0} (P : X → Type 0) (xs ys : List X) → AllByRecursion P xs → AllByRecursion P ys → AllByRecursion P (xs ++ ys)
All-append P [] ys each more = more
All-append P (x ∷ xs) ys each more = (each.0, All-append P xs ys each.1 more)

All-cons : (P Q : List ℕ → Type 0) (i : ℕ) (xs : List (List ℕ)) → ((a : List ℕ) → P a → Q (i ∷ a)) → AllByRecursion P xs
    → AllByRecursion Q (map (λ a. i ∷ a) xs)
All-cons P Q i [] step each = tt
All-cons P Q i (x ∷ xs) step each = (step x each.0, All-cons P Q i xs step each.1)

pub All-assignments : (rs : List ℕ) → AllByRecursion (λ a. AreBelow a rs) (assignments rs)
All-assignments [] = (tt, tt)
All-assignments (r ∷ rs) = from 0 r (omega arith) (All-assignments rs) where
  from : (k n : ℕ) → k + n ≡ r → AllByRecursion (λ a. AreBelow a rs) (assignments rs)
      → AllByRecursion (λ a. AreBelow a (r ∷ rs)) (flat_map (λ i. map (λ a. i ∷ a) (assignments rs)) (range_with_len k n))
  from k zero is each = tt
  from k (suc n) is each =
      All-append (λ a. AreBelow a (r ∷ rs)) (map (λ a. k ∷ a) (assignments rs))
      (flat_map (λ i. map (λ a. i ∷ a) (assignments rs)) (range_with_len (k + 1) n))
      (All-cons (λ a. AreBelow a rs) (λ a. AreBelow a (r ∷ rs)) k (assignments rs) (λ a below. (omega arith, below)) each)
      (from (k + 1) n (omega arith) each)

at-below : (a rs : List ℕ) (v : ℕ) → AreBelow a rs → v < length rs → at a v < get_or rs v 0
at-below [] [] v below inside = absurd (omega arith)
at-below (m ∷ a) (r ∷ rs) zero below inside = below.0
at-below (m ∷ a) (r ∷ rs) (suc v) below inside = at-below a rs v below.1 (omega arith)
at-below [] (r ∷ rs) v below inside = absurd below
at-below (m ∷ a) [] v below inside = absurd below

-- it has a number for each
get-below : (a rs : List ℕ) (v : ℕ) → AreBelow a rs → v < length rs → slice_get a v ≡ Some (at a v)
get-below [] [] v below inside = absurd (omega arith)
get-below (m ∷ a) (r ∷ rs) zero below inside = refl
get-below (m ∷ a) (r ∷ rs) (suc v) below inside = get-below a rs v below.1 (omega arith)
get-below [] (r ∷ rs) v below inside = absurd below
get-below (m ∷ a) [] v below inside = absurd below

agrees-unbound : (g : PropertyGraph) (a : List ℕ) (xs : List Variable) → AreBelow a (ranges_of g xs)
    → agrees (replicate (length xs) false) (replicate (length xs) 0) a ≡ true
agrees-unbound g [] [] below = refl
agrees-unbound g (m ∷ a) (x ∷ xs) below = agrees-unbound g a xs below.1
agrees-unbound g [] (x ∷ xs) below = absurd below
agrees-unbound g (m ∷ a) [] below = absurd below

pub IsWithin-unbound : (g : PropertyGraph) (xs : List Variable) → IsWithin (replicate (length xs) false) (replicate (length xs) 0) (ranges_of g xs)
IsWithin-unbound g [] = tt
IsWithin-unbound g (x ∷ xs) = (λ is. absurd (true≢false (sym is)), IsWithin-unbound g xs)

and_comm : (b c : Bool) → (b && c) ≡ (c && b)
and_comm true true = refl
and_comm true false = refl
and_comm false true = refl
and_comm false false = refl

-- going along an edge asks that it runs between its ends
leads-runs : (o : Option Edge) (out : Bool) (x y : ℕ) → leads o out x y ≡ option_map_or (runs_between (Some (cond out x y)) (Some (cond out y x))) o false
leads-runs None out x y = refl
leads-runs (Some e) true x y = ap₂ (λ b c. b && c) (eqb-sym e.source x) (eqb-sym e.target y)
leads-runs (Some e) false x y = and_comm (eqb e.target x) (eqb e.source y) ∙ ap₂ (λ b c. b && c) (eqb-sym e.source y) (eqb-sym e.target x)

at-cond : (a : List ℕ) (out : Bool) (x y : ℕ) → cond out (at a x) (at a y) ≡ at a (cond out x y)
at-cond a true x y = refl
at-cond a false x y = refl

cond-below : (out : Bool) (x y n : ℕ) → x < n → y < n → cond out x y < n
cond-below true x y n low high = low
cond-below false x y n low high = high

walk-meets : (g : PropertyGraph) (a rs : List ℕ) (out : Bool) (x e y : ℕ) → AreBelow a rs → x < length rs → e < length rs → y < length rs
    → leads (slice_get g.edges (at a e)) out (at a x) (at a y)
    ≡ option_map_or (runs_between (slice_get a (cond out x y)) (slice_get a (cond out y x))) (option_and_then (slice_get g.edges) (slice_get a e)) false
walk-meets g a rs out x e y below low_x low_e low_y =
    leads-runs (slice_get g.edges (at a e)) out (at a x) (at a y)
    ∙ ap₂ (λ n m. option_map_or (runs_between (Some n) (Some m)) (slice_get g.edges (at a e)) false) (at-cond a out x y) (at-cond a out y x)
    ∙ ap₂ (λ n m. option_map_or (runs_between n m) (slice_get g.edges (at a e)) false)
    (sym (get-below a rs (cond out x y) below (cond-below out x y (length rs) low_x low_y)))
    (sym (get-below a rs (cond out y x) below (cond-below out y x (length rs) low_y low_x)))
    ∙ ap (λ o. option_map_or (runs_between (slice_get a (cond out x y)) (slice_get a (cond out y x))) (option_and_then (slice_get g.edges) o) false)
    (sym (get-below a rs e below low_e))

bound_low : (bound : List Bool) (v : ℕ) → IsBound bound v → v < length bound
bound_low [] v is = absurd (true≢false (sym is))
bound_low (b ∷ bound) zero is = omega arith
bound_low (b ∷ bound) (suc v) is = let later = bound_low bound v is in omega arith

meets_moves-asked : (texts : List (List ℕ)) (g : PropertyGraph) (q : Query) (a : List ℕ) (ms : List Move) (bound : List Bool)
    → AreBelow a (ranges_of g q.variables) → length bound ≡ length q.variables → IsOrdered q bound ms
    → meets_moves texts g q a ms ≡ list_all (meets texts g q a) (asked_by ms)
meets_moves-asked texts g q a [] bound below same ordered = refl
meets_moves-asked texts g q a (Start v ∷ ms) bound below same ordered =
    let inside : v < length q.variables = subst (λ n. v < n) same ordered.0.is_there in
    let range = range_at g q.variables v inside ∙ ap (λ b. cond b (length g.edges) (length g.vertices)) ordered.0.kind in
    let low = subst (λ r. at a v < r) range
    (at-below a (ranges_of g q.variables) v below (subst (λ n. v < n) (sym (length_ranges g q.variables)) inside)) in
    ap₂ (λ b c. b && c) (lt-ltb (at a v) (length g.vertices) low)
    (meets_moves-asked texts g q a ms (set bound v true) below (length-set bound v true ∙ same) ordered.1)
meets_moves-asked texts g q a (Go out x e y ∷ ms) bound below same ordered =
    let size : length bound ≡ length (ranges_of g q.variables) = same ∙ sym (length_ranges g q.variables) in
    ap₂ (λ b c. b && c)
    (walk-meets g a (ranges_of g q.variables) out x e y below (subst (λ n. x < n) size (bound_low bound x ordered.0.0)) (subst (λ n. e < n) size ordered.0.1.0.is_there)
    (subst (λ n. y < n) (length-set bound e true ∙ size) ordered.0.1.1.is_there))
    (meets_moves-asked texts g q a ms (set (set bound e true) y true) below
    (length-set (set bound e true) y true ∙ length-set bound e true ∙ same) ordered.1)
meets_moves-asked texts g q a (Close out x e y ∷ ms) bound below same ordered =
    let size : length bound ≡ length (ranges_of g q.variables) = same ∙ sym (length_ranges g q.variables) in
    ap₂ (λ b c. b && c)
    (walk-meets g a (ranges_of g q.variables) out x e y below (subst (λ n. x < n) size (bound_low bound x ordered.0.0)) (subst (λ n. e < n) size ordered.0.1.0.is_there)
    (subst (λ n. y < n) size (bound_low bound y ordered.0.1.1)))
    (meets_moves-asked texts g q a ms (set bound e true) below (length-set bound e true ∙ same) ordered.1)
meets_moves-asked texts g q a (Ask t ∷ ms) bound below same ordered =
    ap (λ c. meets texts g q a t && c) (meets_moves-asked texts g q a ms bound below same ordered.1)

length-same : (n : ℕ) → length (replicate n false) ≡ n
length-same zero = refl
length-same (suc n) = ap suc (length-same n)

-- what all pass is what none fails
failures : {X : Type 0} (p : X → Bool) (xs : List X) → list_all p xs ≡ eqb (total (λ x. cond (p x) 0 1) xs) 0
failures p [] = refl
failures p (x ∷ xs) = at_answer (p x) (failures p xs) where
  at_answer : (b : Bool) → list_all p xs ≡ eqb (total (λ x. cond (p x) 0 1) xs) 0 → (b && list_all p xs) ≡ eqb (cond b 0 1 + total (λ x. cond (p x) 0 1) xs) 0
  at_answer true later = later ∙ ap (λ n. eqb n 0) (let e : total (λ x. cond (p x) 0 1) xs ≡ 0 + total (λ x. cond (p x) 0 1) xs = omega arith in e)
  at_answer false later = sym (ne_eqb (1 + total (λ x. cond (p x) 0 1) xs) 0 (λ e. omega arith))

same-tests : {X : Type 0} (xs ys : List X) (p : X → Bool) → SameBag xs ys → list_all p xs ≡ list_all p ys
same-tests xs ys p same = failures p xs ∙ ap (λ n. eqb n 0) (same (λ x. cond (p x) 0 1)) ∙ sym (failures p ys)

pub moves_lead_to_all : MovesLeadToAll
moves_lead_to_all texts g q ms ends asks u =
    rows_of-moves texts g q ms none (unbound q) ends asks.in_order (IsWithin-unbound g q.variables) u
    ∙ sum_by-each (λ a. bit (u a && (meets_moves texts g q a ms && agrees none (unbound q) a))) (λ a. bit (fits texts g q a && u a)) (assignments (ranges_of g q.variables))
    (AllByRecursion-map (λ a. AreBelow a (ranges_of g q.variables))
    (λ a. bit (u a && (meets_moves texts g q a ms && agrees none (unbound q) a)) ≡ bit (fits texts g q a && u a)) (assignments (ranges_of g q.variables))
    (λ a below. ap bit (same_answer (u a) (meets_moves texts g q a ms) (agrees none (unbound q) a) (fits texts g q a)
    (agrees-unbound g a q.variables below)
    (meets_moves-asked texts g q a ms none below (length-same (length q.variables)) asks.in_order
    ∙ same-tests (asked_by ms) (tests_of q) (meets texts g q a) asks.each_once)))
    (All-assignments (ranges_of g q.variables)))
    ∙ sym (count_by-filter u (fits texts g q) (assignments (ranges_of g q.variables)))
  where
    none : List Bool
    none = replicate (length q.variables) false

    same_answer : (b m g f : Bool) → g ≡ true → m ≡ f → (b && (m && g)) ≡ (f && b)
    same_answer true true true true g_is is = refl
    same_answer true false true false g_is is = refl
    same_answer false true true true g_is is = refl
    same_answer false false true false g_is is = refl
    same_answer b true g false g_is is = absurd (true≢false is)
    same_answer b false g true g_is is = absurd (true≢false (sym is))
    same_answer b m false f g_is is = absurd (true≢false (sym g_is))
