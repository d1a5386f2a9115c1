-- The rows that moves lead to are the assignments that have the bound numbers and meet what is still asked.
use Rattle.std.proofs.Common.{◌≡◌, ℕ, zero, suc, ◌+◌, ◌<◌, Bool, true, false, cond, ◌&&◌, eqb, ltb, List, [], ◌∷◌, length, map, set, count_by, filter, flat_map}
use Rattle.std.proofs.Common.{refl, sym, ap, ◌∙◌, subst, arith, true≢false}
use Rattle.std.specs.Prelude.{slice_get}
use Rattle.std.specs.List.{AllByRecursion, range_with_len, list_all}
use Rattle.std.proofs.lemmas.Bool.{eqb-true, eqb-false, eq-eqb, ne_eqb, and_parts}
use Rattle.std.proofs.lemmas.List.Sums.{sum_by-cons}
use Rattle.graph_tables.specs.Graph.{Edge, EndsIn, PropertyGraph}
use Rattle.partition.specs.Parts.{other_end}
use Rattle.pgql_meaning.specs.Assignments.{assignments, ranges_of}
use Rattle.pgql_meaning.specs.Fits.{meets}
use Rattle.typed_expr.specs.declared.query.Query.{Query}
use Rattle.stage_plan.specs.Moves.{Move, Start, Go, Close, Ask, IsOrdered}
use Rattle.plan_tree.specs.Agreeing.{IsWithin, agrees}
use Rattle.plan_tree.specs.Rows.{edges_at, rows_of}
use Rattle.plan_tree.proofs.Bags.{AllByRecursion-filter, AllByRecursion-map, bit, count_by-and, count_by-filter, count_by-flat_map, count_by-map, count_by-parts, count_by-same}
use Rattle.plan_tree.proofs.Bags.{sum_by-each, sum_by-same, sum_by-zero}
use Rattle.plan_tree.proofs.Agree.{IsWithin-bind, agrees-at, agrees-bind, at, meets-agrees, range_of_free}
use Rattle.plan_tree.proofs.Edges.{IsInside, count_by-edges_at, edges_at-inside, leads}
use Rattle.plan_tree.proofs.Ranges.{count_by-range, sum_by-pick}

-- what a move asks of an assignment, and what all moves ask
abbrev pub meets_move : List (List ℕ) → PropertyGraph → Query → List ℕ → Move → Bool
meets_move texts g q a (Start v) = ltb (at a v) (length g.vertices)
meets_move texts g q a (Go out x e y) = leads (slice_get g.edges (at a e)) out (at a x) (at a y)
meets_move texts g q a (Close out x e y) = leads (slice_get g.edges (at a e)) out (at a x) (at a y)
meets_move texts g q a (Ask t) = meets texts g q a t

abbrev pub meets_moves : List (List ℕ) → PropertyGraph → Query → List ℕ → List Move → Bool
meets_moves texts g q a [] = true
meets_moves texts g q a (m ∷ ms) = meets_move texts g q a m && meets_moves texts g q a ms

pub eqb-sym : (n i : ℕ) → eqb n i ≡ eqb i n
eqb-sym n i = at_answer (eqb n i) refl where
  at_answer : (b : Bool) → eqb n i ≡ b → eqb n i ≡ eqb i n
  at_answer true is = is ∙ sym (eq-eqb i n (sym (eqb-true n i is)))
  at_answer false is = is ∙ sym (ne_eqb i n (λ e. eqb-false n i is (sym e)))

-- where all is bound and within its range, one assignment agrees
count_by-whole : (u : List ℕ → Bool) (bound : List Bool) (c rs : List ℕ) → list_all (λ b. b) bound ≡ true → IsWithin bound c rs
    → count_by (λ a. u a && agrees bound c a) (assignments rs) ≡ bit (u c)
count_by-whole u [] [] [] all within = and_true (u []) where
  and_true : (b : Bool) → 0 + bit (b && true) ≡ bit b
  and_true true = refl
  and_true false = refl
count_by-whole u (b ∷ bound) (n ∷ c) (r ∷ rs) all within =
    let parts = and_parts b (list_all (λ x. x) bound) all in
    let test : List ℕ → Bool = λ a. u a && agrees (b ∷ bound) (n ∷ c) a in
    count_by-flat_map test (λ i. map (λ a. i ∷ a) (assignments rs)) (range_with_len 0 r)
    ∙ sum_by-same (λ i. count_by test (map (λ a. i ∷ a) (assignments rs))) (λ i. cond (eqb i n) (bit (u (i ∷ c))) 0) (range_with_len 0 r)
    (λ i. count_by-map test (λ a. i ∷ a) (assignments rs)
    ∙ count_by-same (λ a. u (i ∷ a) && (cond b (eqb n i) true && agrees bound c a)) (λ a. eqb i n && (u (i ∷ a) && agrees bound c a)) (assignments rs)
    (λ a. at_bound (u (i ∷ a)) n i (agrees bound c a) b parts.0)
    ∙ count_by-and (eqb i n) (λ a. u (i ∷ a) && agrees bound c a) (assignments rs)
    ∙ ap (λ m. cond (eqb i n) m 0) (count_by-whole (λ a. u (i ∷ a)) bound c rs parts.1 within.1))
    ∙ sum_by-pick (λ i. bit (u (i ∷ c))) n r (within.0 parts.0)
  where
    swap : (x y z : Bool) → (x && (y && z)) ≡ (y && (x && z))
    swap true true z = refl
    swap true false z = refl
    swap false true z = refl
    swap false false z = refl

    at_bound : (x : Bool) (n i : ℕ) (z b : Bool) → b ≡ true → (x && (cond b (eqb n i) true && z)) ≡ (eqb i n && (x && z))
    at_bound x n i z b is = rw is (swap x (eqb n i) z ∙ ap (λ y. y && (x && z)) (eqb-sym n i))
count_by-whole u [] [] (r ∷ rs) all within = absurd within
count_by-whole u [] (n ∷ c) rs all within = absurd within
count_by-whole u (b ∷ bound) [] rs all within = absurd within
count_by-whole u (b ∷ bound) (n ∷ c) [] all within = absurd within

-- one thing: it is of as many items as it is kept, once or never
once : {E : Type 0} (b r g j : Bool) (p : E → Bool) (items : List E) → (g ≡ true → count_by p items ≡ bit j)
    → count_by (λ e. b && (r && (p e && g))) items ≡ bit (b && ((j && r) && g))
once false r g j p items is = sum_by-zero items
once true false g j p items is = sum_by-zero items ∙ sym (no (j) g) where
  no : (j g : Bool) → bit ((j && false) && g) ≡ 0
  no true g = refl
  no false g = refl
once true true false j p items is =
    count_by-same (λ e. p e && false) (λ _. false) items (λ e. and_false (p e)) ∙ sum_by-zero items
    ∙ sym (ap bit (and_false (j && true)))
  where
    and_false : (x : Bool) → (x && false) ≡ false
    and_false true = refl
    and_false false = refl
once true true true j p items is =
    count_by-same (λ e. p e && true) p items (λ e. and_true (p e)) ∙ is refl ∙ sym (ap bit (and_true (j && true) ∙ and_true j))
  where
    and_true : (x : Bool) → (x && true) ≡ x
    and_true true = refl
    and_true false = refl

-- a move that binds: each item has the assignments that agree with its child, and together they are those that are joined
binds : {E : Type 0} (texts : List (List ℕ)) (g : PropertyGraph) (q : Query) (u join rest : List ℕ → Bool) (bound later : List Bool) (c : List ℕ)
    (child : E → List ℕ) (of : E → List ℕ → Bool) (items : List E) (rows : E → List (List ℕ))
    → ((e : E) (a : List ℕ) → agrees later (child e) a ≡ (of e a && agrees bound c a))
    → ((a : List ℕ) → agrees bound c a ≡ true → count_by (λ e. of e a) items ≡ bit (join a))
    → AllByRecursion (λ e. count_by u (rows e) ≡ count_by (λ a. u a && (rest a && agrees later (child e) a)) (assignments (ranges_of g q.variables))) items
    → count_by u (flat_map rows items)
    ≡ count_by (λ a. u a && ((join a && rest a) && agrees bound c a)) (assignments (ranges_of g q.variables))
binds texts g q u join rest bound later c child of items rows bind one below =
    count_by-flat_map u rows items
    ∙ sum_by-each (λ e. count_by u (rows e)) (λ e. count_by (λ a. u a && (rest a && (of e a && agrees bound c a))) (assignments (ranges_of g q.variables))) items
    (AllByRecursion-map
    (λ e. count_by u (rows e) ≡ count_by (λ a. u a && (rest a && agrees later (child e) a)) (assignments (ranges_of g q.variables)))
    (λ e. count_by u (rows e) ≡ count_by (λ a. u a && (rest a && (of e a && agrees bound c a))) (assignments (ranges_of g q.variables))) items
    (λ e is. is ∙ count_by-same (λ a. u a && (rest a && agrees later (child e) a)) (λ a. u a && (rest a && (of e a && agrees bound c a)))
    (assignments (ranges_of g q.variables)) (λ a. ap (λ b. u a && (rest a && b)) (bind e a)))
    below)
    ∙ count_by-parts (λ a. u a && ((join a && rest a) && agrees bound c a)) (λ e a. u a && (rest a && (of e a && agrees bound c a)))
    items (assignments (ranges_of g q.variables))
    (λ a. once (u a) (rest a) (agrees bound c a) (join a) (λ e. of e a) items (one a))

-- a test asked early has the answer that it has at each assignment that agrees
asks : (u meets_a rest agree : List ℕ → Bool) (here : Bool) (rows : List (List ℕ)) (things : List (List ℕ))
    → ((a : List ℕ) → agree a ≡ true → here ≡ meets_a a)
    → count_by u rows ≡ count_by (λ a. u a && (rest a && agree a)) things
    → count_by u (cond here rows []) ≡ count_by (λ a. u a && ((meets_a a && rest a) && agree a)) things
asks u meets_a rest agree true rows things same below =
    below ∙ count_by-same (λ a. u a && (rest a && agree a)) (λ a. u a && ((meets_a a && rest a) && agree a)) things
    (λ a. ap (λ b. u a && b) (joins (meets_a a) (rest a) (agree a) (same a)))
  where
    joins : (m r g : Bool) → (g ≡ true → true ≡ m) → (r && g) ≡ ((m && r) && g)
    joins true r g is = refl
    joins false true true is = absurd (true≢false (is refl))
    joins false true false is = refl
    joins false false g is = refl
asks u meets_a rest agree false rows things same below =
    sym (sum_by-zero things)
    ∙ count_by-same (λ a. false) (λ a. u a && ((meets_a a && rest a) && agree a)) things
    (λ a. joins (u a) (meets_a a) (rest a) (agree a) (same a))
  where
    joins : (b m r g : Bool) → (g ≡ true → false ≡ m) → false ≡ (b && ((m && r) && g))
    joins false m r g is = refl
    joins true false r g is = refl
    joins true true r true is = absurd (true≢false (sym (is refl)))
    joins true true true false is = refl
    joins true true false false is = refl

abbrev RowsAre : List (List ℕ) → PropertyGraph → Query → List Move → List Bool → List ℕ → Type 0
RowsAre texts g q ms bound c = (u : List ℕ → Bool) → count_by u (rows_of texts g q ms c)
    ≡ count_by (λ a. u a && (meets_moves texts g q a ms && agrees bound c a)) (assignments (ranges_of g q.variables))

pub rows_of-moves : (texts : List (List ℕ)) (g : PropertyGraph) (q : Query) (ms : List Move) (bound : List Bool) (c : List ℕ)
    → AllByRecursion (EndsIn g.vertices) g.edges → IsOrdered q bound ms → IsWithin bound c (ranges_of g q.variables) → RowsAre texts g q ms bound c
rows_of-moves texts g q [] bound c whole ordered within u =
    sum_by-cons (λ a. bit (u a)) c [] ∙ zero_more (bit (u c)) ∙ sym (count_by-whole u bound c (ranges_of g q.variables) ordered within)
  where
    zero_more : (n : ℕ) → n + 0 ≡ n
    zero_more n = omega arith
rows_of-moves texts g q (Start v ∷ ms) bound c whole ordered within u =
    let free = ordered.0 in
    let range = range_of_free g q bound c false v within free in
    binds texts g q u (λ a. ltb (at a v) (length g.vertices)) (λ a. meets_moves texts g q a ms) bound (set bound v true) c
    (λ i. set c v i) (λ i a. eqb i (at a v)) (range_with_len 0 (length g.vertices)) (λ i. rows_of texts g q ms (set c v i))
    (λ i a. agrees-bind bound c a v i free.is_there free.not_bound)
    (λ a _. count_by-range (at a v) (length g.vertices))
    (AllByRecursion-map (λ i. i < length g.vertices)
    (λ i. count_by u (rows_of texts g q ms (set c v i)) ≡ count_by (λ a. u a && (meets_moves texts g q a ms && agrees (set bound v true) (set c v i) a)) (assignments (ranges_of g q.variables)))
    (range_with_len 0 (length g.vertices))
    (λ i below. rows_of-moves texts g q ms (set bound v true) (set c v i) whole ordered.1
    (IsWithin-bind bound c (ranges_of g q.variables) v i within (subst (λ r. i < r) (sym range) below)) u)
    (AllByRecursion-range (length g.vertices) 0 (length g.vertices) (omega arith)))
  where
    AllByRecursion-range : (most k n : ℕ) → k + n ≡ most → AllByRecursion (λ i. i < most) (range_with_len k n)
    AllByRecursion-range most k zero is = tt
    AllByRecursion-range most k (suc n) is = (omega arith, AllByRecursion-range most (k + 1) n (omega arith))
rows_of-moves texts g q (Go out x e y ∷ ms) bound c whole ordered within u =
    let free_e = ordered.0.1.0 in
    let free_y = ordered.0.1.1 in
    let child : ℕ × Edge → List ℕ = λ n. set (set c e n.0) y (other_end out n.1) in
    let later = set (set bound e true) y true in
    binds texts g q u (λ a. leads (slice_get g.edges (at a e)) out (at a x) (at a y)) (λ a. meets_moves texts g q a ms) bound later c
    child (λ n a. eqb (other_end out n.1) (at a y) && eqb n.0 (at a e)) (edges_at g out (at c x)) (λ n. rows_of texts g q ms (child n))
    (λ n a. agrees-bind (set bound e true) (set c e n.0) a y (other_end out n.1) free_y.is_there free_y.not_bound
    ∙ ap (λ b. eqb (other_end out n.1) (at a y) && b) (agrees-bind bound c a e n.0 free_e.is_there free_e.not_bound)
    ∙ and_assoc (eqb (other_end out n.1) (at a y)) (eqb n.0 (at a e)) (agrees bound c a))
    (λ a same. count_by-edges_at g out (at c x) (at a y) (at a e)
    ∙ ap (λ n. bit (leads (slice_get g.edges (at a e)) out n (at a y))) (agrees-at bound c a x same ordered.0.0))
    (AllByRecursion-map (λ (n : ℕ × Edge). IsInside (length g.edges) (length g.vertices) out n)
    (λ n. count_by u (rows_of texts g q ms (child n)) ≡ count_by (λ a. u a && (meets_moves texts g q a ms && agrees later (child n) a)) (assignments (ranges_of g q.variables)))
    (edges_at g out (at c x))
    (λ n inside.
    let within_e = IsWithin-bind bound c (ranges_of g q.variables) e n.0 within
    (subst (λ r. n.0 < r) (sym (range_of_free g q bound c true e within free_e)) inside.0) in
    rows_of-moves texts g q ms later (child n) whole ordered.1
    (IsWithin-bind (set bound e true) (set c e n.0) (ranges_of g q.variables) y (other_end out n.1) within_e
    (subst (λ r. other_end out n.1 < r) (sym (range_of_free g q (set bound e true) (set c e n.0) false y within_e free_y)) inside.1)) u)
    (edges_at-inside g out (at c x) whole))
  where
    and_assoc : (x y z : Bool) → (x && (y && z)) ≡ ((x && y) && z)
    and_assoc true y z = refl
    and_assoc false y z = refl
rows_of-moves texts g q (Close out x e y ∷ ms) bound c whole ordered within u =
    let free_e = ordered.0.1.0 in
    let items = filter (λ (n : ℕ × Edge). eqb (other_end out n.1) (at c y)) (edges_at g out (at c x)) in
    let child : ℕ × Edge → List ℕ = λ n. set c e n.0 in
    let later = set bound e true in
    binds texts g q u (λ a. leads (slice_get g.edges (at a e)) out (at a x) (at a y)) (λ a. meets_moves texts g q a ms) bound later c
    child (λ n a. eqb n.0 (at a e)) items (λ n. rows_of texts g q ms (child n))
    (λ n a. agrees-bind bound c a e n.0 free_e.is_there free_e.not_bound)
    (λ a same. count_by-filter (λ (n : ℕ × Edge). eqb n.0 (at a e)) (λ (n : ℕ × Edge). eqb (other_end out n.1) (at c y)) (edges_at g out (at c x))
    ∙ count_by-edges_at g out (at c x) (at c y) (at a e)
    ∙ ap (λ n. bit (leads (slice_get g.edges (at a e)) out n (at c y))) (agrees-at bound c a x same ordered.0.0)
    ∙ ap (λ n. bit (leads (slice_get g.edges (at a e)) out (at a x) n)) (agrees-at bound c a y same ordered.0.1.1))
    (AllByRecursion-map (λ (n : ℕ × Edge). IsInside (length g.edges) (length g.vertices) out n)
    (λ n. count_by u (rows_of texts g q ms (child n)) ≡ count_by (λ a. u a && (meets_moves texts g q a ms && agrees later (child n) a)) (assignments (ranges_of g q.variables)))
    items
    (λ n inside. rows_of-moves texts g q ms later (child n) whole ordered.1
    (IsWithin-bind bound c (ranges_of g q.variables) e n.0 within
    (subst (λ r. n.0 < r) (sym (range_of_free g q bound c true e within free_e)) inside.0)) u)
    (AllByRecursion-filter (λ (n : ℕ × Edge). IsInside (length g.edges) (length g.vertices) out n) (λ (n : ℕ × Edge). eqb (other_end out n.1) (at c y))
    (edges_at g out (at c x)) (edges_at-inside g out (at c x) whole)))
rows_of-moves texts g q (Ask t ∷ ms) bound c whole ordered within u =
    asks u (λ a. meets texts g q a t) (λ a. meets_moves texts g q a ms) (agrees bound c) (meets texts g q c t) (rows_of texts g q ms c) (assignments (ranges_of g q.variables))
    (λ a same. meets-agrees texts g q bound c a t same ordered.0)
    (rows_of-moves texts g q ms bound c whole ordered.1 within u)
