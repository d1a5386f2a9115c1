-- What the stages of a query's plan name is there.
use Rattle.std.proofs.Common.{◌≡◌, ℕ, zero, suc, ◌+◌, ◌<◌, ◌≤◌, Bool, true, false, cond, not, List, [], ◌∷◌, ◌++◌, length, map, filter, get_or, Option, Some, None, refl, sym, ap, ◌∙◌, subst, arith}
use Rattle.std.specs.List.{AllByRecursion, range_with_len}
use Rattle.typed_expr.specs.Parts.{HasCapturesBelow, captures}
use Rattle.typed_expr.specs.WellFormed.{IsWellFormed, expressions}
use Rattle.typed_expr.specs.declared.expr.Expr.{Expr}
use Rattle.typed_expr.specs.declared.query.Query.{Query}
use Rattle.stage_plan.proofs.Sums.{by_recursion}
use Rattle.stage_plan.proofs.Whole.{plans_are_whole}
use Rattle.stage_plan.specs.Laws.{AreNamed, HopIsThere}
use Rattle.stage_plan.specs.Laws as laws
use Rattle.stage_plan.specs.Plans.{plan_of}
use Rattle.stage_plan.specs.Walk.{Walk, arrived, captures_of_any, conjunct_at, edge_of, gains_of, is_whole, learned}
use Rattle.stage_plan.specs.Walk.{no_conjunct, passage, passed, rooted, stages_from, stages_of, uses, walk_after, whole}
use Rattle.stage_plan.specs.declared.hop.Hop.{Hop}
use Rattle.stage_plan.specs.declared.hop.Hop.TheVariants as hop
use Rattle.hop_kernels.specs.Fitting.{GainsFit, HopFits, IsThere, StageFits}
use Rattle.hop_kernels.proofs.SeenWords.{captures-low}

All-append : (P : ℕ → Type 0) (xs ys : List ℕ) → AllByRecursion P xs → AllByRecursion P ys → AllByRecursion P (xs ++ ys)
All-append P [] ys all more = more
All-append P (x ∷ xs) ys all more = (all.0, All-append P xs ys all.1 more)

All-filter : (P : ℕ → Type 0) (test : ℕ → Bool) (xs : List ℕ) → AllByRecursion P xs → AllByRecursion P (filter test xs)
All-filter P test [] all = tt
All-filter P test (x ∷ xs) all = at_answer (test x) (All-filter P test xs all.1) where
  at_answer : (b : Bool) → AllByRecursion P (filter test xs) → AllByRecursion P (cond b (x ∷ filter test xs) (filter test xs))
  at_answer true later = (all.0, later)
  at_answer false later = later

All-range : (count start n : ℕ) → start + count ≤ n → AllByRecursion (λ i. i < n) (range_with_len start count)
All-range zero start n below = tt
All-range (suc count) start n below = (omega arith, All-range count (start + 1) n (omega arith))

get-front : (xs ys : List Expr) (k : ℕ) (d : Expr) → k < length xs → get_or (xs ++ ys) k d ≡ get_or xs k d
get-front [] ys k d below = absurd (omega arith)
get-front (x ∷ xs) ys zero d below = refl
get-front (x ∷ xs) ys (suc k) d below = get-front xs ys k d (omega arith)

front-low : (xs ys : List Expr) (k : ℕ) → k < length xs → k < length (xs ++ ys)
front-low [] ys k below = absurd (omega arith)
front-low (x ∷ xs) ys zero below = omega arith
front-low (x ∷ xs) ys (suc k) below = let later = front-low xs ys k (omega arith) in omega arith

columns_of : Query → List Expr
columns_of q = map (λ column. column.0) q.select

keys_of : Query → List Expr
keys_of q = map (λ key. key.0) q.keys

first-expression : (q : Query) (n : ℕ) → n < length q.conjuncts → get_or (expressions q) n no_conjunct ≡ conjunct_at q n
unfolding columns_of keys_of
first-expression q n below =
    get-front (q.conjuncts ++ columns_of q) (keys_of q) n no_conjunct (front-low q.conjuncts (columns_of q) n below)
    ∙ get-front q.conjuncts (columns_of q) n no_conjunct below

within-expressions : (q : Query) (n : ℕ) → n < length q.conjuncts → n < length (expressions q)
unfolding columns_of keys_of
within-expressions q n below = front-low (q.conjuncts ++ columns_of q) (keys_of q) n (front-low q.conjuncts (columns_of q) n below)

module _ (q : Query) (formed : IsWellFormed q) where
  -- the captures that a conjunct uses are there
  uses_one : (n : ℕ) → n < length q.conjuncts → AllByRecursion (λ p. p < length q.captures) (captures (conjunct_at q n))
  uses_one n below =
      by_recursion (λ p. p < length q.captures) (captures (conjunct_at q n))
      (subst (HasCapturesBelow (length q.captures)) (first-expression q n below)
      (formed.uses_are_captured n no_conjunct (within-expressions q n below))).each_capture

  uses_there : (ns : List ℕ) → AllByRecursion (λ n. n < length q.conjuncts) ns → AllByRecursion (λ p. p < length q.captures) (uses q ns)
  uses_there [] all = tt
  uses_there (n ∷ ns) all = All-append (λ p. p < length q.captures) (captures (conjunct_at q n)) (uses q ns) (uses_one n all.0) (uses_there ns all.1)

  gains_fit : (v : Option ℕ) (ns : List ℕ) → AllByRecursion (λ n. n < length q.conjuncts) ns → GainsFit q v (gains_of q (captures_of_any q v) ns)
  gains_fit v ns all = record {
    captures_are = refl;
    captures_there = there v;
    reads_fit = record { conjuncts_there = all; reads_are = refl; reads_there = uses_there ns all };
  } where
    there : (v : Option ℕ) → AllByRecursion (λ p. p < length q.captures) (captures_of_any q v)
    there None = tt
    there (Some x) = captures-low q x

  abbrev Waits : Walk → Type 0
  Waits w = AllByRecursion (λ n. n < length q.conjuncts) w.waiting

  after_arrival : (w : Walk) → Waits w → Waits (arrived q w)
  after_arrival w all = All-filter (λ n. n < length q.conjuncts) (λ n. not (is_whole q (learned w.arriving w.known) n)) w.waiting all

  after_passage : (w : Walk) (o : Option ℕ) → Waits w → Waits (passed q w o)
  after_passage w None all = all
  after_passage w (Some e) all = All-filter (λ n. n < length q.conjuncts) (λ n. not (is_whole q (learned (Some e) w.known) n)) w.waiting all

  after_hop : (w : Walk) (taken : Hop) → Waits w → Waits (walk_after q w taken)
  after_hop w (hop.Root v) all = after_passage (arrived q w) None (after_arrival w all)
  after_hop w (hop.Neighbour out e y) all = after_passage (arrived q w) (Some e) (after_arrival w all)
  after_hop w (hop.Edge out e y) all = after_passage (arrived q w) (Some e) (after_arrival w all)
  after_hop w (hop.Inspect v) all = after_passage (arrived q w) None (after_arrival w all)
  after_hop w hop.Output all = after_passage (arrived q w) None (after_arrival w all)

  passage_fits : (w : Walk) (o : Option ℕ) → Waits w → GainsFit q o (passage q w o)
  passage_fits w None all = gains_fit None [] tt
  passage_fits w (Some e) all =
      gains_fit (Some e) (whole q (learned (Some e) w.known) w.waiting) (All-filter (λ n. n < length q.conjuncts) (is_whole q (learned (Some e) w.known)) w.waiting all)

  there : (o : Option ℕ) → laws.IsThere (length q.variables) o → IsThere q o
  there None is = tt
  there (Some v) is = is

  hop_fits : (bound : List Bool) (taken : Hop) → HopIsThere q bound taken → HopFits q taken
  hop_fits bound (hop.Root v) is = tt
  hop_fits bound (hop.Neighbour out e y) is = (is.0, is.1.0)
  hop_fits bound (hop.Edge out e y) is = (is.0, is.1.0)
  hop_fits bound (hop.Inspect v) is = is.0.0
  hop_fits bound hop.Output is = tt

  stages_fit : (hops : List Hop) (w : Walk) → Waits w → AreNamed q w hops → AllByRecursion (StageFits q) (stages_from q w hops)
  stages_fit [] w all named = tt
  stages_fit (taken ∷ hops) w all named = (
    record {
      arriving_there = there w.arriving named.0.0;
      arrival_fits = gains_fit w.arriving (whole q (learned w.arriving w.known) w.waiting)
          (All-filter (λ n. n < length q.conjuncts) (is_whole q (learned w.arriving w.known)) w.waiting all);
      current_there = named.0.1.0;
      hop_there = hop_fits (arrived q w).known taken named.0.1.1;
      passage_fits = passage_fits (arrived q w) (edge_of taken) (after_arrival w all);
    },
    stages_fit hops (walk_after q w taken) (after_hop w taken all) named.1,
  )

  -- each stage of the plan fits the query
  pub plan_fits : AllByRecursion (StageFits q) (plan_of q).stages
  plan_fits =
      let plan = plans_are_whole q formed in
      subst (AllByRecursion (StageFits q)) (sym (ap (stages_of q) plan.begins))
      (stages_fit plan.path (rooted q 0) (All-range (length q.conjuncts) 0 (length q.conjuncts) (omega arith)) plan.names)
