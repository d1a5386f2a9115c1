-- Where a walk and the planner's front stand together, and how each hop leaves them so.
use Rattle.std.proofs.Common.{◌≡◌, ℕ, zero, suc, ◌<◌, ◌⊎◌, Bool, true, false, cond, ◌&&◌, ◌||◌, eqb, List, [], ◌∷◌, length, get_or, set, Option, Some, None, refl, sym, ap, ap₂}
use Rattle.std.proofs.Common.{◌∙◌, subst, arith, true≢false, inl, inr, length-set, get_or-set_same, get_or-set_other}
use Rattle.std.specs.List.{AllByRecursion, list_any}
use Rattle.std.proofs.lemmas.Bool.{and_parts, cases_eq, eqb-true}
use Rattle.typed_expr.specs.declared.query.EdgeJoin.{EdgeJoin}
use Rattle.typed_expr.specs.declared.query.Query.{Query}
use Rattle.stage_plan.specs.Front.{Front, closes, has_end, is_bound, other_end, pick, reaches, touches}
use Rattle.stage_plan.specs.Hops.{close, reach, turn}
use Rattle.stage_plan.specs.Laws.{IsThere, IsVertexOf}
use Rattle.stage_plan.specs.Moves.{is_edge}
use Rattle.stage_plan.specs.Walk.{Walk, learned, walk_after}
use Rattle.stage_plan.proofs.Owed.{IsArrival}
use Rattle.stage_plan.proofs.Picks.{All-picked, AreDistinct, picked, unsplit}
use Rattle.stage_plan.proofs.Sums.{All-both}
use Rattle.stage_plan.proofs.Wellness.{IsEdgeOf, IsNamed, SameEnds}

-- an edge that is left isn't bound
abbrev pub IsLeft : Query → List Bool → EdgeJoin → Type 0
IsLeft q bound j = IsNamed q j × (get_or bound j.edge false ≡ false)

pub record StandTogether (q : Query) (w : Walk) (f : Front) : Type 0 where
  pub mask : learned w.arriving w.known ≡ f.bound
  pub sizes : length f.bound ≡ length q.variables
  pub at_current : w.current ≡ f.current
  pub current_vertex : IsVertexOf q f.current
  pub current_bound : get_or f.bound f.current false ≡ true
  pub arriving_bound : IsArrival f.bound w.arriving
  pub first_bound : get_or f.bound 0 false ≡ true
  pub left_fit : AllByRecursion (IsLeft q f.bound) f.left
  pub left_differ : AreDistinct f.left
  pub edges_left : (e : ℕ) → IsEdgeOf q e → get_or f.bound e false ≡ false → list_any (λ (j : EdgeJoin). eqb j.edge e) f.left ≡ true
  pub closes_all : (s : ℕ → Bool) → ((v : ℕ) → get_or f.bound v false ≡ true → s v ≡ true) → AllByRecursion (SameEnds s) f.left
      → AllByRecursion (SameEnds s) q.edges

pub in_range : (bound : List Bool) (v : ℕ) → get_or bound v false ≡ true → v < length bound
in_range [] v is = absurd (true≢false (sym is))
in_range (b ∷ bound) zero is = omega arith
in_range (b ∷ bound) (suc v) is = let later = in_range bound v is in omega arith

pub arrival_there : (q : Query) (bound : List Bool) (o : Option ℕ) → length bound ≡ length q.variables → IsArrival bound o → IsThere (length q.variables) o
arrival_there q bound None sizes here = tt
arrival_there q bound (Some v) sizes here = subst (λ n. v < n) sizes (in_range bound v here)

pub set_more : (bound : List Bool) (e v : ℕ) → get_or bound v false ≡ true → get_or (set bound e true) v false ≡ true
set_more bound e v is = at_side (cases_eq v e) where
  at_side : (v ≡ e) ⊎ (v ≡ e → ⊥) → get_or (set bound e true) v false ≡ true
  at_side (inl same) = subst (λ n. get_or (set bound e true) n false ≡ true) (sym same) (get_or-set_same bound e true false (subst (λ n. n < length bound) same (in_range bound v is)))
  at_side (inr other) = get_or-set_other bound e v true false other ∙ is

set_less : (bound : List Bool) (e v : ℕ) → get_or (set bound e true) v false ≡ false → get_or bound v false ≡ false
set_less bound e v is = at_answer (get_or bound v false) refl where
  at_answer : (b : Bool) → get_or bound v false ≡ b → get_or bound v false ≡ false
  at_answer true here = absurd (true≢false (sym (set_more bound e v here) ∙ is))
  at_answer false here = here

set_other : (bound : List Bool) (e v : ℕ) → e < length bound → get_or (set bound e true) v false ≡ false → v ≡ e → ⊥
set_other bound e v below is same =
    true≢false (sym (get_or-set_same bound e true false below) ∙ ap (λ n. get_or (set bound e true) n false) (sym same) ∙ is)

pub kinds_differ : (q : Query) (e v : ℕ) → IsEdgeOf q e → IsVertexOf q v → v ≡ e → ⊥
kinds_differ q e v edge vertex same = true≢false (sym edge.1 ∙ ap (is_edge q) (sym same) ∙ vertex.1)

-- an edge stays left while another edge, or a vertex, is bound
left-set : (q : Query) (bound : List Bool) (e : ℕ) (j : EdgeJoin) → (j.edge ≡ e → ⊥) → IsLeft q bound j → IsLeft q (set bound e true) j
left-set q bound e j other fits = (fits.0, get_or-set_other bound e j.edge true false other ∙ fits.1)

pub other_vertex : (q : Query) (j : EdgeJoin) (v : ℕ) → IsNamed q j → IsVertexOf q (other_end j v)
other_vertex q j v named = at_answer (eqb j.source v) where
  at_answer : (b : Bool) → IsVertexOf q (cond b j.target j.source)
  at_answer true = named.target
  at_answer false = named.source

-- where one end is in a set and the other one too, both are
ends_are : (j : EdgeJoin) (v : ℕ) (s : ℕ → Bool) → has_end j v ≡ true → s v ≡ true → s (other_end j v) ≡ true → SameEnds s j
ends_are j v s ends here other = at_answer (eqb j.source v) refl ends other where
  at_answer : (b : Bool) → eqb j.source v ≡ b → (b || eqb j.target v) ≡ true → s (cond b j.target j.source) ≡ true → SameEnds s j
  at_answer true is end there = ap s (eqb-true j.source v is) ∙ here ∙ sym there
  at_answer false is end there = there ∙ sym (ap s (eqb-true j.target v end) ∙ here)

any_left : (e : ℕ) (j : EdgeJoin) (any rest : Bool) → any ≡ (eqb j.edge e || rest) → any ≡ true → (e ≡ j.edge → ⊥) → rest ≡ true
any_left e j any rest is found other = at_answer (eqb j.edge e) refl (sym is ∙ found) where
  at_answer : (b : Bool) → eqb j.edge e ≡ b → (b || rest) ≡ true → rest ≡ true
  at_answer true same here = absurd (other (sym (eqb-true j.edge e same)))
  at_answer false same here = here

-- both ends of an edge that closes are bound
pub close_end : (f : Front) (j : EdgeJoin) → closes f j ≡ true → get_or f.bound (other_end j f.current) false ≡ true
close_end f j passes =
    let both = and_parts (is_bound f j.source) (is_bound f j.target)
    (and_parts (has_end j f.current) (is_bound f j.source && is_bound f j.target) passes).1 in
    at_answer (eqb j.source f.current) both.0 both.1
  where
    at_answer : (b : Bool) → get_or f.bound j.source false ≡ true → get_or f.bound j.target false ≡ true → get_or f.bound (cond b j.target j.source) false ≡ true
    at_answer true s t = t
    at_answer false s t = s

-- after an edge that closes
pub together-close : (q : Query) (w : Walk) (f : Front) (j : EdgeJoin) (rest : List EdgeJoin) → StandTogether q w f → pick (closes f) f.left ≡ Some (j, rest)
    → StandTogether q (walk_after q w (close f (j, rest)).0) (close f (j, rest)).1
together-close q w f j rest fits is =
    let it = picked (closes f) f.left j rest is in
    let passes = and_parts (has_end j f.current) (is_bound f j.source && is_bound f j.target) it.passes in
    let split = All-picked (IsLeft q f.bound) (closes f) f.left j rest is fits.left_fit in
    let apart = it.apart fits.left_differ in
    let low : j.edge < length f.bound = subst (λ n. j.edge < n) (sym fits.sizes) split.0.0.edge.0 in
    let other_bound : get_or f.bound (other_end j f.current) false ≡ true = close_end f j it.passes in
    record {
      mask = ap (λ b. set b j.edge true) fits.mask;
      sizes = length-set f.bound j.edge true ∙ fits.sizes;
      at_current = refl;
      current_vertex = other_vertex q j f.current split.0.0;
      current_bound = set_more f.bound j.edge (other_end j f.current) other_bound;
      arriving_bound = tt;
      first_bound = set_more f.bound j.edge 0 fits.first_bound;
      left_fit = All-both (λ (k : EdgeJoin). k.edge ≡ j.edge → ⊥) (IsLeft q f.bound) (IsLeft q (set f.bound j.edge true)) rest
          (λ k other here. left-set q f.bound j.edge k other here) apart.0 split.1;
      left_differ = apart.1;
      edges_left = λ e edge free.
          any_left e j (list_any (λ (k : EdgeJoin). eqb k.edge e) f.left) (list_any (λ (k : EdgeJoin). eqb k.edge e) rest)
          (it.any_of (λ (k : EdgeJoin). eqb k.edge e)) (fits.edges_left e edge (set_less f.bound j.edge e free)) (set_other f.bound j.edge e low free);
      closes_all = λ s more same.
          fits.closes_all s (λ v here. more v (set_more f.bound j.edge v here))
          (unsplit (SameEnds s) (closes f) f.left j rest is
          (ends_are j f.current s passes.0 (more f.current (set_more f.bound j.edge f.current fits.current_bound))
          (more (other_end j f.current) (set_more f.bound j.edge (other_end j f.current) other_bound))) same);
    }

-- the other end of an edge that reaches and doesn't close is free
pub other_free : (f : Front) (j : EdgeJoin) → has_end j f.current ≡ true → get_or f.bound f.current false ≡ true → closes f j ≡ false
    → get_or f.bound (other_end j f.current) false ≡ false
other_free f j ends here unclosed = at_answer (eqb j.source f.current) refl ends where
  no : (b : Bool) → (true && (true && b)) ≡ false → b ≡ false
  no b is = is

  no' : (b : Bool) → (true && (b && true)) ≡ false → b ≡ false
  no' true is = is
  no' false is = is

  at_answer : (b : Bool) → eqb j.source f.current ≡ b → (b || eqb j.target f.current) ≡ true
      → get_or f.bound (cond b j.target j.source) false ≡ false
  at_answer true is end =
      no (get_or f.bound j.target false)
      (ap₂ (λ x y. x && (y && get_or f.bound j.target false)) (sym ends) (sym (ap (λ n. get_or f.bound n false) (eqb-true j.source f.current is) ∙ here)) ∙ unclosed)
  at_answer false is end =
      no' (get_or f.bound j.source false)
      (ap₂ (λ x y. x && (get_or f.bound j.source false && y)) (sym ends) (sym (ap (λ n. get_or f.bound n false) (eqb-true j.target f.current end) ∙ here)) ∙ unclosed)

-- after an edge to a new vertex
pub together-reach : (q : Query) (w : Walk) (f : Front) (j : EdgeJoin) (rest : List EdgeJoin) → StandTogether q w f → pick (reaches f) f.left ≡ Some (j, rest)
    → StandTogether q (walk_after q w (reach f (j, rest)).0) (reach f (j, rest)).1
together-reach q w f j rest fits is =
    let it = picked (reaches f) f.left j rest is in
    let split = All-picked (IsLeft q f.bound) (reaches f) f.left j rest is fits.left_fit in
    let apart = it.apart fits.left_differ in
    let y : ℕ = other_end j f.current in
    let vertex = other_vertex q j f.current split.0.0 in
    let bound_e = set f.bound j.edge true in
    let low : j.edge < length f.bound = subst (λ n. j.edge < n) (sym fits.sizes) split.0.0.edge.0 in
    let low_y : y < length bound_e = subst (λ n. y < n) (sym (length-set f.bound j.edge true ∙ fits.sizes)) vertex.0 in
    let y_bound : get_or (set bound_e y true) y false ≡ true = get_or-set_same bound_e y true false low_y in
    let more : (v : ℕ) → get_or f.bound v false ≡ true → get_or (set bound_e y true) v false ≡ true =
    λ v here. set_more bound_e y v (set_more f.bound j.edge v here) in
    record {
      mask = ap (λ b. set (set b j.edge true) y true) fits.mask;
      sizes = length-set bound_e y true ∙ length-set f.bound j.edge true ∙ fits.sizes;
      at_current = refl;
      current_vertex = vertex;
      current_bound = y_bound;
      arriving_bound = y_bound;
      first_bound = more 0 fits.first_bound;
      left_fit = All-both (λ (k : EdgeJoin). k.edge ≡ j.edge → ⊥) (IsLeft q f.bound) (IsLeft q (set bound_e y true)) rest
          (λ k other here.
          let left = left-set q f.bound j.edge k other here in
          left-set q bound_e y k (λ same. kinds_differ q k.edge y here.0.edge vertex (sym same)) left) apart.0 split.1;
      left_differ = apart.1;
      edges_left = λ e edge free.
          let before = set_less bound_e y e free in
          any_left e j (list_any (λ (k : EdgeJoin). eqb k.edge e) f.left) (list_any (λ (k : EdgeJoin). eqb k.edge e) rest)
          (it.any_of (λ (k : EdgeJoin). eqb k.edge e)) (fits.edges_left e edge (set_less f.bound j.edge e before)) (set_other f.bound j.edge e low before);
      closes_all = λ s here same.
          fits.closes_all s (λ v is_here. here v (more v is_here))
          (unsplit (SameEnds s) (reaches f) f.left j rest is
          (ends_are j f.current s it.passes (here f.current (more f.current fits.current_bound)) (here y y_bound)) same);
    }

-- after a turn to a bound end
pub together-turn : (q : Query) (w : Walk) (f : Front) (j : EdgeJoin) (rest : List EdgeJoin) → StandTogether q w f → pick (touches f) f.left ≡ Some (j, rest)
    → StandTogether q (walk_after q w (turn f (j, rest)).0) (turn f (j, rest)).1
together-turn q w f j rest fits is =
    let it = picked (touches f) f.left j rest is in
    let split = All-picked (IsLeft q f.bound) (touches f) f.left j rest is fits.left_fit in
    record {
      mask = fits.mask;
      sizes = fits.sizes;
      at_current = refl;
      current_vertex = vertex_at (get_or f.bound j.source false) split.0.0.source split.0.0.target;
      current_bound = bound_at (get_or f.bound j.source false) refl it.passes;
      arriving_bound = tt;
      first_bound = fits.first_bound;
      left_fit = fits.left_fit;
      left_differ = fits.left_differ;
      edges_left = fits.edges_left;
      closes_all = fits.closes_all;
    }
  where
    vertex_at : (b : Bool) → IsVertexOf q j.source → IsVertexOf q j.target → IsVertexOf q (cond b j.source j.target)
    vertex_at true s t = s
    vertex_at false s t = t

    bound_at : (b : Bool) → get_or f.bound j.source false ≡ b → (b || get_or f.bound j.target false) ≡ true
        → get_or f.bound (cond b j.source j.target) false ≡ true
    bound_at true is end = is
    bound_at false is end = end
