-- What the planner's code does is the planner's rule.
use Rattle.std.proofs.Common.{◌≡◌, ℕ, zero, suc, ◌+◌, ◌-◌, ◌<◌, ◌≤◌, ◌∷◌, [], arith, Bool, List, length, Option, Some, None, option_map, refl, sym, ap, ap₂, ◌∙◌, subst}
use Rattle.std.specs.Option.{option_or}
use Rattle.std.proofs.lemmas.List.{length-map}
use Rattle.typed_expr.specs.WellFormed.{IsWellFormed}
use Rattle.typed_expr.specs.declared.query.EdgeJoin.{EdgeJoin}
use Rattle.typed_expr.specs.declared.query.Query.{Query}
use Rattle.stage_plan.specs.declared.stage.Stage.{Stage}
use Rattle.stage_plan.specs.Plans.{IsCourse}
use Rattle.stage_plan.specs.Walk.{Walk, rooted, stages_from, stages_of, walk_after}
use Rattle.stage_plan.specs.declared.hop.Hop.{Hop}
use Rattle.stage_plan.specs.declared.hop.Hop.TheVariants as hop
use Rattle.stage_plan.specs.Front.{Front, after_edge, bound_end, closes, pick, reaches, touches, turned, way_along, with_bound}
use Rattle.stage_plan.specs.Hops.{and_on, close, first_front, hops_from, hops_of, most_hops, next_hop, reach, turn}

pub no_edge : EdgeJoin
no_edge = record { edge = 0; source = 0; target = 0 }

pub next_hop-closes : (f new : Front) (j : EdgeJoin) (rest : List EdgeJoin) (walk : Bool × ℕ × ℕ) → pick (closes f) f.left ≡ Some (j, rest)
    → walk ≡ way_along j f.current → new ≡ after_edge f (j, rest) → next_hop f ≡ Some (hop.Edge walk.0 walk.1 walk.2, new)
next_hop-closes f new j rest walk found walks is =
    ap (λ o. option_or (option_map (close f) o) (option_or (option_map (reach f) (pick (reaches f) f.left)) (option_map (turn f) (pick (touches f) f.left)))) found
    ∙ ap₂ (λ (w : Bool × ℕ × ℕ) n. Some (hop.Edge w.0 w.1 w.2, n)) (sym walks) (sym is)

pub next_hop-reaches : (f mid new : Front) (j : EdgeJoin) (rest : List EdgeJoin) (walk : Bool × ℕ × ℕ) → pick (closes f) f.left ≡ None
    → pick (reaches f) f.left ≡ Some (j, rest) → walk ≡ way_along j f.current → mid ≡ after_edge f (j, rest)
    → new ≡ with_bound mid walk.2
    → next_hop f ≡ Some (hop.Neighbour walk.0 walk.1 walk.2, new)
next_hop-reaches f mid new j rest walk none found walks here is =
    ap₂ (λ c r. option_or (option_map (close f) c) (option_or (option_map (reach f) r) (option_map (turn f) (pick (touches f) f.left)))) none found
    ∙ ap₂ (λ (w : Bool × ℕ × ℕ) (n : Front). Some (hop.Neighbour w.0 w.1 w.2, with_bound n w.2)) (sym walks) (sym here)
    ∙ ap (λ n. Some (hop.Neighbour walk.0 walk.1 walk.2, n)) (sym is)

pub next_hop-touches : (f new : Front) (j : EdgeJoin) (rest : List EdgeJoin) (v : ℕ) → pick (closes f) f.left ≡ None
    → pick (reaches f) f.left ≡ None → pick (touches f) f.left ≡ Some (j, rest) → v ≡ bound_end f j
    → new ≡ turned f v
    → next_hop f ≡ Some (hop.Inspect v, new)
next_hop-touches f new j rest v unclosed unreached found end is =
    ap₂ (λ c r. option_or (option_map (close f) c) (option_or (option_map (reach f) r) (option_map (turn f) (pick (touches f) f.left)))) unclosed unreached
    ∙ ap (λ t. option_map (turn f) t) found
    ∙ ap (λ n. Some (hop.Inspect n, turned f n)) (sym end)
    ∙ ap (λ n. Some (hop.Inspect v, n)) (sym is)

-- one turn of the planner
pub hops_from-some : (n k : ℕ) (f new : Front) (next : Hop) → k < n → next_hop f ≡ Some (next, new)
    → hops_from (n - k) f ≡ next ∷ hops_from (n - (k + 1)) new
hops_from-some n k f new next below is =
    let left : n - k ≡ suc (n - (k + 1)) = omega arith in
    ap (λ m. hops_from m f) left ∙ ap (λ o. and_on o (hops_from (n - (k + 1)))) is

pub hops_from-none : (n k : ℕ) (f : Front) → k < n → next_hop f ≡ None → hops_from (n - k) f ≡ hop.Output ∷ []
hops_from-none n k f below is =
    let left : n - k ≡ suc (n - (k + 1)) = omega arith in
    ap (λ m. hops_from m f) left ∙ ap (λ o. and_on o (hops_from (n - (k + 1)))) is

pub hops_from-end : (n k : ℕ) (f : Front) → n ≤ k → hops_from (n - k) f ≡ hop.Output ∷ []
hops_from-end n k f past =
    let none : n - k ≡ 0 = omega arith in
    ap (λ m. hops_from m f) none

-- there are at most so many hops before the output
pub length-hops_from : (n : ℕ) (f : Front) → length (hops_from n f) ≤ n + 1
length-hops_from zero f = omega arith
length-hops_from (suc n) f = at_next (next_hop f) (λ g. length-hops_from n g) where
  at_next : (o : Option (Hop × Front)) → ((g : Front) → length (hops_from n g) ≤ n + 1) → length (and_on o (hops_from n)) ≤ suc n + 1
  at_next None later = omega arith
  at_next (Some r) later = let short = later r.1 in omega arith

pub hops_from-some_hop : (n : ℕ) (f : Front) → 0 < length (hops_from n f)
hops_from-some_hop zero f = omega arith
hops_from-some_hop (suc n) f = at_next (next_hop f) where
  at_next : (o : Option (Hop × Front)) → 0 < length (and_on o (hops_from n))
  at_next None = omega arith
  at_next (Some r) = omega arith

length-stages_from : (q : Query) (w : Walk) (hops : List Hop) → length (stages_from q w hops) ≡ length hops
length-stages_from q w [] = refl
length-stages_from q w (h ∷ hops) = ap suc (length-stages_from q (walk_after q w h) hops)

-- a query's plan has no more stages than there may be
pub plan-bounds : (q : Query) (hops : List Hop) (stages : List Stage) (words : ℕ) → IsWellFormed q → hops ≡ hops_of q → stages ≡ stages_of q hops
    → IsCourse (record { hops = hops; stages = stages; words = words })
plan-bounds q hops stages words well is_hops is_stages =
    let n : ℕ = most_hops q.edges in
    let front = first_front (length q.variables) q.edges in
    let few_edges : length q.edges ≤ 12 = subst (λ m. m ≤ 12) (sym (ap length well.edges_are_joined) ∙ length-map q.edges (λ (j : EdgeJoin). j.edge)) well.few_edges in
    let most = length-hops_from n front in
    let some = hops_from-some_hop n front in
    let all = ap length is_hops in
    let each = ap length is_stages ∙ ap (λ hs. length (stages_of q hs)) is_hops ∙ length-stages_from q (rooted q 0) (hops_from n front) in
    record {
      few_hops = omega arith;
      some_stages = omega arith;
      few_stages = omega arith;
    }
