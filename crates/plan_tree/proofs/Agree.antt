-- What binding a variable does to the assignments that agree, and what they have in common.
use Rattle.std.proofs.Common.{◌≡◌, ℕ, zero, suc, ◌<◌, Bool, true, false, cond, ◌&&◌, eqb, List, [], ◌∷◌, length, map, get_or, set, Some}
use Rattle.std.proofs.Common.{refl, sym, ap, ap₂, ◌∙◌, subst, arith, true≢false}
use Rattle.std.specs.Prelude.{slice_get}
use Rattle.std.specs.List.{AllByRecursion, list_all}
use Rattle.std.specs.Option.{option_and_then, option_map_or}
use Rattle.std.proofs.lemmas.Bool.{eqb-true, and_parts}
use Rattle.std.proofs.lemmas.List.{length-map}
use Rattle.adfs_base.specs.declared.value.Value.TheVariants as value
use Rattle.graph_tables.specs.Graph.{PropertyGraph}
use Rattle.pgql_meaning.specs.Assignments.{range_of, ranges_of}
use Rattle.pgql_meaning.specs.Captured.{captured, captured_value, element_at, element_of, use_of}
use Rattle.pgql_meaning.specs.Fits.{Test, Labels, Joined, Holds, has_labels, meets, runs_between}
use Rattle.typed_expr.specs.Parts.{captures}
use Rattle.typed_expr.specs.Val.{passes, val}
use Rattle.typed_expr.specs.declared.expr.Expr.{Expr}
use Rattle.typed_expr.specs.declared.query.Capture.{Capture}
use Rattle.typed_expr.specs.declared.query.Query.{Query}
use Rattle.typed_expr.specs.declared.query.Variable.{Variable}
use Rattle.stage_plan.specs.Moves.{IsBound, IsFree, MayAsk}
use Rattle.stage_plan.specs.Walk.{is_known, is_ready}
use Rattle.plan_tree.specs.Agreeing.{IsWithin, agrees}
use Rattle.plan_tree.proofs.Values.{IsSame, val-same}

and_swap : (x y z : Bool) → (x && (y && z)) ≡ (y && (x && z))
and_swap true true z = refl
and_swap true false z = refl
and_swap false true z = refl
and_swap false false z = refl

abbrev pub at : List ℕ → ℕ → ℕ
at numbers v = get_or numbers v 0

pub agrees-bind : (bound : List Bool) (c a : List ℕ) (v i : ℕ) → v < length bound → get_or bound v true ≡ false
    → agrees (set bound v true) (set c v i) a ≡ (eqb i (at a v) && agrees bound c a)
agrees-bind bound c a v i = go bound c a v where
  and_false : (x : Bool) → (x && false) ≡ false
  and_false true = refl
  and_false false = refl

  go : (bound : List Bool) (c a : List ℕ) (v : ℕ) → v < length bound → get_or bound v true ≡ false
      → agrees (set bound v true) (set c v i) a ≡ (eqb i (at a v) && agrees bound c a)
  go [] c a v below free = absurd (omega arith)
  go (b ∷ bound) [] a zero below free = sym (and_false (eqb i (at a zero)))
  go (b ∷ bound) [] a (suc v) below free = sym (and_false (eqb i (at a (suc v))))
  go (b ∷ bound) (n ∷ c) [] zero below free = sym (and_false (eqb i 0))
  go (b ∷ bound) (n ∷ c) [] (suc v) below free = sym (and_false (eqb i 0))
  go (b ∷ bound) (n ∷ c) (m ∷ a) zero below free = rw free refl
  go (b ∷ bound) (n ∷ c) (m ∷ a) (suc v) below free =
      ap (λ r. cond b (eqb n m) true && r) (go bound c a v (omega arith) free)
      ∙ and_swap (cond b (eqb n m) true) (eqb i (at a v)) (agrees bound c a)

-- the two have the same number
pub agrees-get : (bound : List Bool) (c a : List ℕ) (v : ℕ) → agrees bound c a ≡ true → IsBound bound v → slice_get c v ≡ slice_get a v
agrees-get [] c a v same is_bound = absurd (true≢false (sym is_bound))
agrees-get (b ∷ bound) [] a v same is_bound = absurd (true≢false (sym same))
agrees-get (b ∷ bound) (n ∷ c) [] v same is_bound = absurd (true≢false (sym same))
agrees-get (b ∷ bound) (n ∷ c) (m ∷ a) zero same is_bound =
    let both = and_parts (cond b (eqb n m) true) (agrees bound c a) same in
    ap Some (eqb-true n m (subst (λ s. cond s (eqb n m) true ≡ true) is_bound both.0))
agrees-get (b ∷ bound) (n ∷ c) (m ∷ a) (suc v) same is_bound =
    agrees-get bound c a v (and_parts (cond b (eqb n m) true) (agrees bound c a) same).1 is_bound

read : (xs : List ℕ) (v : ℕ) → get_or xs v 0 ≡ option_map_or (λ n. n) (slice_get xs v) 0
read [] v = refl
read (x ∷ xs) zero = refl
read (x ∷ xs) (suc v) = read xs v

pub agrees-at : (bound : List Bool) (c a : List ℕ) (v : ℕ) → agrees bound c a ≡ true → IsBound bound v → at c v ≡ at a v
agrees-at bound c a v same is_bound = read c v ∙ ap (λ o. option_map_or (λ n. n) o 0) (agrees-get bound c a v same is_bound) ∙ sym (read a v)

element_of-agrees : (g : PropertyGraph) (q : Query) (bound : List Bool) (c a : List ℕ) (v : ℕ) → agrees bound c a ≡ true → IsBound bound v
    → element_of g q c v ≡ element_of g q a v
element_of-agrees g q bound c a v same is_bound =
    ap (λ n. option_and_then (λ (x : Variable). option_and_then (element_at g x) n) (slice_get q.variables v)) (agrees-get bound c a v same is_bound)

-- a known capture has the same value
captured-agrees : (g : PropertyGraph) (q : Query) (bound : List Bool) (c a : List ℕ) (cs : List Capture) (place : ℕ) → agrees bound c a ≡ true
    → is_known bound (slice_get cs place) ≡ true → IsSame (map (captured_value g q c) cs) (map (captured_value g q a) cs) place
captured-agrees g q bound c a [] place same known = refl
captured-agrees g q bound c a (x ∷ cs) zero same known = ap (λ o. option_map_or (use_of x.what) o value.Null) (element_of-agrees g q bound c a x.variable same known)
captured-agrees g q bound c a (x ∷ cs) (suc place) same known = captured-agrees g q bound c a cs place same known

pub value-agrees : (texts : List (List ℕ)) (g : PropertyGraph) (q : Query) (bound : List Bool) (c a : List ℕ) (x : Expr) → agrees bound c a ≡ true
    → is_ready q.captures bound x ≡ true → val texts (captured g q c) x ≡ val texts (captured g q a) x
value-agrees texts g q bound c a x same ready = val-same texts (captured g q c) (captured g q a) x (each (captures x) ready) where
  each : (places : List ℕ) → list_all (λ place. is_known bound (slice_get q.captures place)) places ≡ true → AllByRecursion (IsSame (captured g q c) (captured g q a)) places
  each [] all = tt
  each (p ∷ ps) all =
      let parts = and_parts (is_known bound (slice_get q.captures p)) (list_all (λ place. is_known bound (slice_get q.captures place)) ps) all in
      (captured-agrees g q bound c a q.captures p same parts.0, each ps parts.1)

-- a test that may be asked has the same answer at every assignment that agrees
pub meets-agrees : (texts : List (List ℕ)) (g : PropertyGraph) (q : Query) (bound : List Bool) (c a : List ℕ) (t : Test) → agrees bound c a ≡ true
    → MayAsk q bound t → meets texts g q c t ≡ meets texts g q a t
meets-agrees texts g q bound c a (Labels v) same may =
    ap (λ o. option_map_or (λ (x : Variable). option_map_or (has_labels texts x.labels) o false) (slice_get q.variables v) false)
    (element_of-agrees g q bound c a v same may)
meets-agrees texts g q bound c a (Joined j) same may =
    let e = agrees-get bound c a j.edge same may.0 in
    let s = agrees-get bound c a j.source same may.1.0 in
    let t = agrees-get bound c a j.target same may.1.1 in
    ap₂ (λ n m. option_map_or (runs_between n m) (option_and_then (slice_get g.edges) (slice_get c j.edge)) false) s t
    ∙ ap (λ n. option_map_or (runs_between (slice_get a j.source) (slice_get a j.target)) (option_and_then (slice_get g.edges) n) false) e
meets-agrees texts g q bound c a (Holds x) same may = ap passes (value-agrees texts g q bound c a x same may)

pub IsWithin-bind : (bound : List Bool) (c rs : List ℕ) (v i : ℕ) → IsWithin bound c rs → i < get_or rs v 0
    → IsWithin (set bound v true) (set c v i) rs
IsWithin-bind [] [] [] v i within below = absurd (omega arith)
IsWithin-bind (b ∷ bound) (n ∷ c) (r ∷ rs) zero i within below = (λ _. below, within.1)
IsWithin-bind (b ∷ bound) (n ∷ c) (r ∷ rs) (suc v) i within below =
    (within.0, IsWithin-bind bound c rs v i within.1 below)
IsWithin-bind [] [] (r ∷ rs) v i within below = absurd within
IsWithin-bind [] (n ∷ c) rs v i within below = absurd within
IsWithin-bind (b ∷ bound) [] rs v i within below = absurd within
IsWithin-bind (b ∷ bound) (n ∷ c) [] v i within below = absurd within

pub IsWithin-length : (bound : List Bool) (c rs : List ℕ) → IsWithin bound c rs → length bound ≡ length rs
IsWithin-length [] [] [] within = refl
IsWithin-length (b ∷ bound) (n ∷ c) (r ∷ rs) within = ap suc (IsWithin-length bound c rs within.1)
IsWithin-length [] [] (r ∷ rs) within = absurd within
IsWithin-length [] (n ∷ c) rs within = absurd within
IsWithin-length (b ∷ bound) [] rs within = absurd within
IsWithin-length (b ∷ bound) (n ∷ c) [] within = absurd within

pub range_at : (g : PropertyGraph) (xs : List Variable) (v : ℕ) → v < length xs
    → get_or (ranges_of g xs) v 0 ≡ cond (get_or (map (λ (x : Variable). x.edge) xs) v false) (length g.edges) (length g.vertices)
range_at g [] v below = absurd (omega arith)
range_at g (x ∷ xs) zero below = refl
range_at g (x ∷ xs) (suc v) below = range_at g xs v (omega arith)

pub length_ranges : (g : PropertyGraph) (xs : List Variable) → length (ranges_of g xs) ≡ length xs
length_ranges g xs = length-map xs (range_of g)

-- the range of a free variable
pub range_of_free : (g : PropertyGraph) (q : Query) (bound : List Bool) (c : List ℕ) (edge : Bool) (v : ℕ) → IsWithin bound c (ranges_of g q.variables)
    → IsFree q bound edge v → get_or (ranges_of g q.variables) v 0 ≡ cond edge (length g.edges) (length g.vertices)
range_of_free g q bound c edge v within free =
    range_at g q.variables v
    (subst (λ n. v < n) (IsWithin-length bound c (ranges_of g q.variables) within ∙ length_ranges g q.variables) free.is_there)
    ∙ ap (λ b. cond b (length g.edges) (length g.vertices)) free.kind
