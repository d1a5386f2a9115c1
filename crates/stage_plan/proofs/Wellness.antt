-- What a well-formed query says of its edges, one by one.
use Rattle.std.proofs.Common.{◌≡◌, ℕ, zero, suc, ◌+◌, ◌<◌, ◌≤◌, Bool, true, false, ◌||◌, eqb, List, [], ◌∷◌, length, map, get_or, Some, refl, sym, ap, ◌∙◌, subst}
use Rattle.std.proofs.Common.{arith}
use Rattle.std.specs.Prelude.{slice_get}
use Rattle.std.specs.List.{AllByRecursion, list_any}
use Rattle.std.proofs.lemmas.Bool.{eq-eqb, or_right}
use Rattle.std.proofs.lemmas.List.{length-map}
use Rattle.typed_expr.specs.WellFormed.{IsVertex, IsWellFormed, JoinsVertices, are_edges, edge_variables, edges_from}
use Rattle.typed_expr.specs.declared.query.Capture.{Capture}
use Rattle.typed_expr.specs.declared.query.EdgeJoin.{EdgeJoin}
use Rattle.typed_expr.specs.declared.query.Query.{Query}
use Rattle.stage_plan.specs.Front.{AreThere}
use Rattle.stage_plan.specs.Laws.{IsVertexOf}
use Rattle.stage_plan.specs.Moves.{is_edge}
use Rattle.stage_plan.proofs.Picks.{AreDistinct}
use Rattle.stage_plan.proofs.Sums.{All-both, All-map, by_recursion}

-- there is such a variable, and it is an edge
abbrev pub IsEdgeOf : Query → ℕ → Type 0
IsEdgeOf q v = (v < length q.variables) × (is_edge q v ≡ true)

pub record IsNamed (q : Query) (j : EdgeJoin) : Type 0 where
  pub edge : IsEdgeOf q j.edge
  pub source : IsVertexOf q j.source
  pub target : IsVertexOf q j.target

abbrev pub SameEnds : (ℕ → Bool) → EdgeJoin → Type 0
SameEnds s j = s j.source ≡ s j.target

pub record Wellness (q : Query) : Type 0 where
  pub first : IsVertexOf q 0
  pub captures_name : AllByRecursion (λ (c : Capture). c.variable < length q.variables) q.captures
  pub edges_name : AllByRecursion (IsNamed q) q.edges
  pub edges_differ : AreDistinct q.edges
  pub edges_are_joined : (e : ℕ) → IsEdgeOf q e → list_any (λ (j : EdgeJoin). eqb j.edge e) q.edges ≡ true
  pub connected : (s : ℕ → Bool) → s 0 ≡ true → AllByRecursion (SameEnds s) q.edges → (v : ℕ) → IsVertexOf q v → s v ≡ true

found_below : (bs : List Bool) (v : ℕ) (b : Bool) → slice_get bs v ≡ Some b → v < length bs
found_below [] v b found = cc
found_below (x ∷ bs) zero b found = omega arith
found_below (x ∷ bs) (suc v) b found = let later = found_below bs v b found in omega arith

found_is : (bs : List Bool) (v : ℕ) (b : Bool) → slice_get bs v ≡ Some b → get_or bs v false ≡ b
found_is [] v b found = cc
found_is (x ∷ bs) zero b found = cc
found_is (x ∷ bs) (suc v) b found = found_is bs v b found

is_found : (bs : List Bool) (v : ℕ) (b : Bool) → v < length bs → get_or bs v false ≡ b → slice_get bs v ≡ Some b
is_found [] v b below is = absurd (omega arith)
is_found (x ∷ bs) zero b below is = ap Some is
is_found (x ∷ bs) (suc v) b below is = is_found bs v b (omega arith) is

count_of : (q : Query) → length (are_edges q) ≡ length q.variables
count_of q = length-map q.variables (λ variable. variable.edge)

vertex_of : (q : Query) (v : ℕ) → IsVertex (are_edges q) v → IsVertexOf q v
vertex_of q v is = (subst (λ n. v < n) (count_of q) (found_below (are_edges q) v false is), found_is (are_edges q) v false is)

-- what is counted among the edges is one
abbrev IsEdgeFrom : ℕ → List Bool → ℕ → Type 0
IsEdgeFrom n bs e = (i : ℕ) × (e ≡ n + i) × (i < length bs) × (get_or bs i false ≡ true)

one_further : (n : ℕ) (b : Bool) (bs : List Bool) (e : ℕ) → IsEdgeFrom (n + 1) bs e → IsEdgeFrom n (b ∷ bs) e
one_further n b bs e at = (suc at.0, (let is = at.1 in omega arith), (let below = at.2 in omega arith), at.3)

edges_are : (n : ℕ) (bs : List Bool) → AllByRecursion (IsEdgeFrom n bs) (edges_from n bs)
edges_are n [] = tt
edges_are n (true ∷ bs) = (
  (0, omega arith, omega arith, refl),
  All-map (IsEdgeFrom (n + 1) bs) (IsEdgeFrom n (true ∷ bs)) (edges_from (n + 1) bs) (one_further n true bs) (edges_are (n + 1) bs),
)
edges_are n (false ∷ bs) = All-map (IsEdgeFrom (n + 1) bs) (IsEdgeFrom n (false ∷ bs)) (edges_from (n + 1) bs) (one_further n false bs) (edges_are (n + 1) bs)

abbrev Ascends : ℕ → List ℕ → Type 0
Ascends n [] = Unit {0}
Ascends n (x ∷ xs) = (n ≤ x) × Ascends (x + 1) xs

ascends_later : (m n : ℕ) (xs : List ℕ) → m ≤ n → Ascends n xs → Ascends m xs
ascends_later m n [] less up = tt
ascends_later m n (x ∷ xs) less up = (let here = up.0 in omega arith, up.1)

edges_ascend : (n : ℕ) (bs : List Bool) → Ascends n (edges_from n bs)
edges_ascend n [] = tt
edges_ascend n (true ∷ bs) = (omega arith, edges_ascend (n + 1) bs)
edges_ascend n (false ∷ bs) = ascends_later n (n + 1) (edges_from (n + 1) bs) (omega arith) (edges_ascend (n + 1) bs)

differ : (js : List EdgeJoin) (n : ℕ) → Ascends n (map (λ (j : EdgeJoin). j.edge) js) → AreDistinct js
differ [] n up = tt
differ (j ∷ js) n up = (above js (j.edge + 1) up.1 (λ e less same. absurd (omega arith)), differ js (j.edge + 1) up.1) where
  above : (ks : List EdgeJoin) (m : ℕ) → Ascends m (map (λ (j : EdgeJoin). j.edge) ks) → ((e : ℕ) → m ≤ e → e ≡ j.edge → ⊥)
      → AllByRecursion (λ (k : EdgeJoin). k.edge ≡ j.edge → ⊥) ks
  above [] m up apart = tt
  above (k ∷ ks) m up apart = (apart k.edge up.0, above ks (k.edge + 1) up.1 (λ e less. apart e (let here = up.0 in omega arith)))

-- each edge variable is counted
edge_counted : (n : ℕ) (bs : List Bool) (i : ℕ) → i < length bs → get_or bs i false ≡ true → list_any (λ e. eqb e (n + i)) (edges_from n bs) ≡ true
edge_counted n [] i below is = absurd (omega arith)
edge_counted n (true ∷ bs) zero below is = ap (λ b. b || list_any (λ e. eqb e (n + 0)) (edges_from (n + 1) bs)) (eq-eqb n (n + 0) (let e : n ≡ n + 0 = omega arith in e))
edge_counted n (false ∷ bs) zero below is = cc
edge_counted n (true ∷ bs) (suc i) below is =
    or_right (eqb n (n + suc i)) (list_any (λ e. eqb e (n + suc i)) (edges_from (n + 1) bs))
    (ap (λ m. list_any (λ e. eqb e m) (edges_from (n + 1) bs)) (let e : n + suc i ≡ n + 1 + i = omega arith in e) ∙ edge_counted (n + 1) bs i (omega arith) is)
edge_counted n (false ∷ bs) (suc i) below is =
    ap (λ m. list_any (λ e. eqb e m) (edges_from (n + 1) bs)) (let e : n + suc i ≡ n + 1 + i = omega arith in e) ∙ edge_counted (n + 1) bs i (omega arith) is

any-map : (p : ℕ → Bool) (js : List EdgeJoin) → list_any p (map (λ (j : EdgeJoin). j.edge) js) ≡ list_any (λ (j : EdgeJoin). p j.edge) js
any-map p [] = refl
any-map p (j ∷ js) = ap (λ b. p j.edge || b) (any-map p js)

all-unmap : (P : ℕ → Type 0) (js : List EdgeJoin) → AllByRecursion P (map (λ (j : EdgeJoin). j.edge) js) → AllByRecursion (λ (j : EdgeJoin). P j.edge) js
all-unmap P [] all = tt
all-unmap P (j ∷ js) all = (all.0, all-unmap P js all.1)

abbrev by_index : (P : EdgeJoin → Type 0) → List EdgeJoin → Type 0
by_index P js = (k : ℕ) (d : EdgeJoin) → k < length js → P (get_or js k d)

each_index : (P : EdgeJoin → Type 0) (js : List EdgeJoin) → AllByRecursion P js → by_index P js
each_index P [] all k d below = absurd (omega arith)
each_index P (j ∷ js) all zero d below = all.0
each_index P (j ∷ js) all (suc k) d below = each_index P js all.1 k d (omega arith)

pub wellness : (q : Query) → IsWellFormed q → Wellness q
wellness q well = record {
  first = vertex_of q 0 well.begins_with_vertex;
  captures_name = by_recursion (λ (c : Capture). c.variable < length q.variables) q.captures well.captures_name_variables;
  edges_name = All-both (λ (j : EdgeJoin). IsEdgeOf q j.edge) (JoinsVertices (are_edges q)) (IsNamed q) q.edges
      (λ j edge ends. record { edge = edge; source = vertex_of q j.source ends.source; target = vertex_of q j.target ends.target })
      (all-unmap (IsEdgeOf q) q.edges (subst (AllByRecursion (IsEdgeOf q)) (sym well.edges_are_joined) all_edges))
      (by_recursion (JoinsVertices (are_edges q)) q.edges well.ends_are_vertices);
  edges_differ = differ q.edges 0 (subst (Ascends 0) (sym well.edges_are_joined) (edges_ascend 0 (are_edges q)));
  edges_are_joined = λ e edge.
      sym (any-map (λ x. eqb x e) q.edges) ∙ ap (list_any (λ x. eqb x e)) well.edges_are_joined
      ∙ ap (λ m. list_any (λ x. eqb x m) (edge_variables q)) (let same : e ≡ 0 + e = omega arith in same)
      ∙ edge_counted 0 (are_edges q) e (subst (λ n. e < n) (sym (count_of q)) edge.0) edge.1;
  connected = λ s has_first same v vertex.
      well.is_connected s (record { has_first = has_first; both_or_neither = each_index (SameEnds s) q.edges same }) v
      (is_found (are_edges q) v false (subst (λ n. v < n) (sym (count_of q)) vertex.0) vertex.1);
} where
  all_edges : AllByRecursion (IsEdgeOf q) (edge_variables q)
  all_edges = All-map (IsEdgeFrom 0 (are_edges q)) (IsEdgeOf q) (edge_variables q)
      (λ e at.
      let is = at.1 in
      let same : at.0 ≡ e = omega arith in
      (subst (λ n. n < length q.variables) same (subst (λ n. at.0 < n) (count_of q) at.2), subst (λ n. is_edge q n ≡ true) same at.3))
      (edges_are 0 (are_edges q))

-- the variables of the edges are there
pub edges_there : (q : Query) → IsWellFormed q → AllByRecursion (AreThere (length q.variables)) q.edges
edges_there q well = All-map (IsNamed q) (AreThere (length q.variables)) q.edges
    (λ j named. record { edge_there = named.edge.0; source_there = named.source.0; target_there = named.target.0 }) (wellness q well).edges_name
