-- A turn over a list of attempts, begun somewhere and gone round once.
use Rattle.std.proofs.Common.{◌≡◌, ℕ, ◌+◌, ◌-◌, ◌<◌, ◌%◌, false, List, [], ◌∷◌, ◌++◌, length, get_or, take, drop, add-one, Some, None, refl, sym, ap, ◌∙◌, subst, arith, append_assoc, inl, inr}
use Rattle.std.specs.Prelude.{nat_eq, max}
use Rattle.std.proofs.lemmas.List.{append-nil, length-drop, take_all}
use Rattle.std.proofs.Math.Seq.{drop-cons}
use Rattle.adfs_base.specs.Shape.{Extents}
use Rattle.bfs_budget.specs.Tries.{actions_of}
use Rattle.bfs_budget.specs.declared.policy.Look.{Look}
use Rattle.bfs_budget.specs.declared.tries.HandState.{HandState}
use Rattle.bfs_budget.specs.declared.tries.Attempt.{Attempt}
use Rattle.bfs_budget.specs.declared.tries.Attempt.TheVariants as attempt
use Rattle.fabric.specs.Account.{Holding, Call, Given}
use Rattle.match_context.specs.Tree.{Tree}
use Rattle.match_context.specs.declared.frame.Frame.{Frame}
use Rattle.dfs_worker.specs.declared.event.Event.{Event}
use Rattle.dfs_worker.specs.declared.event.Event.TheVariants as event
use Rattle.dfs_worker.specs.declared.hand.Hand.{Hand}
use Rattle.dfs_worker.specs.declared.hand.Hand.TheVariants.{Free, Charged, Posted, Popped, Emptied}
use Rattle.dfs_worker.specs.declared.turn.Turn.{Turn}
use Rattle.dfs_worker.specs.declared.turn.Turn.TheVariants.{Idle}
use Rattle.dfs_worker.specs.Guards.{own_guard}
use Rattle.dfs_worker.specs.Sound.{IsHand, IsWorker}
use Rattle.dfs_worker.specs.State.{State, is_free, next_stage, waiting}
use Rattle.dfs_worker.specs.Turn.{Try, Step, PostOther, Start, NextMark, NextClose, PassedTry, IsTurn, Fits, emptied_top, left_by, own_post, pops_from, tries_of, all_tries, turn_tries, is_retire, start_at, begun_at, hand_number, hand_state_of, look_of}
use Rattle.dfs_worker.proofs.Facts.{advance-facts}
use Rattle.dfs_worker.proofs.Sweeps.{ended-idle, turn-idle, turn-made}

-- ---- what a passed try leaves as it was, as far as the later tries go by it
pub record Alike (v u : State) : Type 0 where
  pub number : u.number ≡ v.number
  pub shape : u.shape ≡ v.shape
  pub hand : u.hand ≡ v.hand
  pub child : waiting u.stack ≡ waiting v.stack
  pub next : next_stage u.stack ≡ next_stage v.stack

pub Alike-refl : (v : State) → Alike v v
Alike-refl v = record { number = refl; shape = refl; hand = refl; child = refl; next = refl }

pub Alike-trans : (v u s : State) → Alike v u → Alike u s → Alike v s
Alike-trans v u s a b =
    record { number = b.number ∙ a.number; shape = b.shape ∙ a.shape; hand = b.hand ∙ a.hand; child = b.child ∙ a.child; next = b.next ∙ a.next }

Alike-same : (v u : State) → u ≡ v → Alike v u
Alike-same v u e = subst (λ s. Alike v s) (sym e) (Alike-refl v)

child-emptied : (stack : List Frame) → waiting (emptied_top stack) ≡ waiting stack
child-emptied [] = refl
child-emptied (frame ∷ frames) = refl

next-emptied : (stack : List Frame) → next_stage (emptied_top stack) ≡ next_stage stack
next-emptied [] = refl
next-emptied (frame ∷ frames) = refl

left-alike : (v : State) (e : Event) → Alike v (left_by e v)
left-alike v (event.Restore w) = record { number = refl; shape = refl; hand = refl; child = child-emptied v.stack; next = next-emptied v.stack }
left-alike v e = Alike-refl v

passed-alike : {F : Type 0} (done : F → ℕ → Call → Given → F → Type 0) (excused : F → ℕ → Call → F → Type 0) (v u : State) (f g : F) (t : Try) → PassedTry done excused v f t u g → Alike v u
passed-alike done excused v u f g (Step e) (inl barred) = Alike-same v u barred.1
passed-alike done excused v u f g (Step e) (inr missed) = subst (λ s. Alike v s) (sym missed.1) (left-alike v e)
passed-alike done excused v u f g PostOther h = Alike-same v u h.1
passed-alike done excused v u f g Start h = Alike-same v u h.1
passed-alike done excused v u f g NextMark h =
    subst (λ s. Alike v s) (sym h.1.1.1) (record { number = refl; shape = refl; hand = refl; child = refl; next = refl })
passed-alike done excused v u f g NextClose h =
    subst (λ s. Alike v s) (sym h.1.1.1) (record { number = refl; shape = refl; hand = refl; child = refl; next = refl })

pub idle-alike : {F : Type 0} (done : F → ℕ → Call → Given → F → Type 0) (excused : F → ℕ → Call → F → Type 0) (tree : Tree) (v u : State) (f g : F) (tries : List Try) →
    IsTurn done excused tree v f tries Idle u g → Alike v u
idle-alike done excused tree v u f g [] h = Alike-same v u h.1
idle-alike done excused tree v u f g (t ∷ tries) (inl ended) = absurd (ended-idle done excused tree v f t Idle u g refl ended)
idle-alike done excused tree v u f g (t ∷ tries) (inr passed) =
    Alike-trans v passed.0 u (passed-alike done excused v passed.0 f passed.1.0 t passed.1.1.0) (idle-alike done excused tree passed.0 u passed.1.0 g tries passed.1.1.1)

-- ---- the tries of a list of attempts
abbrev pub tries_at : State → List Attempt → List Try
tries_at v attempts = all_tries v.number v.shape.stages v.stack v.hand attempts

tries-alike : (w stages : ℕ) (stack stack' : List Frame) (hand : Hand) (a : Attempt) → waiting stack' ≡ waiting stack → next_stage stack' ≡ next_stage stack →
    tries_of w stages stack' hand a ≡ tries_of w stages stack hand a
tries-alike w stages stack stack' hand attempt.PostOwn child next = ap (own_post w) child
tries-alike w stages stack stack' hand attempt.Pop child next = ap (λ k. pops_from w (max 1 k) (stages - max 1 k)) next
tries-alike w stages stack stack' hand a child next = refl

all-alike : (w stages : ℕ) (stack stack' : List Frame) (hand : Hand) (attempts : List Attempt) → waiting stack' ≡ waiting stack → next_stage stack' ≡ next_stage stack →
    all_tries w stages stack' hand attempts ≡ all_tries w stages stack hand attempts
all-alike w stages stack stack' hand [] child next = refl
all-alike w stages stack stack' hand (a ∷ attempts) child next =
    rw (tries-alike w stages stack stack' hand a child next, all-alike w stages stack stack' hand attempts child next) refl

of-alike : (v u : State) (a : Attempt) → Alike v u → tries_of u.number u.shape.stages u.stack u.hand a ≡ tries_of v.number v.shape.stages v.stack v.hand a
of-alike v u a alike = rw (alike.number, alike.shape, alike.hand) (tries-alike v.number v.shape.stages v.stack u.stack v.hand a alike.child alike.next)

pub at-alike : (v u : State) (attempts : List Attempt) → Alike v u → tries_at u attempts ≡ tries_at v attempts
at-alike v u attempts alike = rw (alike.number, alike.shape, alike.hand) (all-alike v.number v.shape.stages v.stack u.stack v.hand attempts alike.child alike.next)

all_tries-append : (w stages : ℕ) (stack : List Frame) (hand : Hand) (xs ys : List Attempt) →
    all_tries w stages stack hand (xs ++ ys) ≡ all_tries w stages stack hand xs ++ all_tries w stages stack hand ys
all_tries-append w stages stack hand [] ys = refl
all_tries-append w stages stack hand (x ∷ xs) ys =
    ap (λ rest. tries_of w stages stack hand x ++ rest) (all_tries-append w stages stack hand xs ys)
    ∙ sym (append_assoc (tries_of w stages stack hand x) (all_tries w stages stack hand xs) (all_tries w stages stack hand ys))

-- ---- one attempt of a list, at a worker that is like the first
pub attempt-on : {F : Type 0} (done : F → ℕ → Call → Given → F → Type 0) (excused : F → ℕ → Call → F → Type 0) (tree : Tree) (first v u v' : State) (f g f' : F) (a : Attempt)
    (rest : List Attempt) (turn : Turn) →
    Alike first v → IsTurn done excused tree v f (tries_of v.number v.shape.stages v.stack v.hand a) Idle u g → IsTurn done excused tree u g (tries_at first rest) turn v' f' →
    IsTurn done excused tree v f (tries_at first (a ∷ rest)) turn v' f'
attempt-on done excused tree first v u v' f g f' a rest turn alike passed later =
    turn-idle done excused tree v u v' f g f' (tries_of first.number first.shape.stages first.stack first.hand a) (tries_at first rest) turn
    (subst (λ ts. IsTurn done excused tree v f ts Idle u g) (of-alike first v a alike) passed) later

pub attempt-made : {F : Type 0} (done : F → ℕ → Call → Given → F → Type 0) (excused : F → ℕ → Call → F → Type 0) (tree : Tree) (first v v' : State) (f f' : F) (a : Attempt)
    (rest : List Attempt) (turn : Turn) →
    Alike first v → (turn ≡ Idle → ⊥) → IsTurn done excused tree v f (tries_of v.number v.shape.stages v.stack v.hand a) turn v' f' →
    IsTurn done excused tree v f (tries_at first (a ∷ rest)) turn v' f'
attempt-made done excused tree first v v' f f' a rest turn alike not_idle made =
    turn-made done excused tree v v' f f' (tries_of first.number first.shape.stages first.stack first.hand a) (tries_at first rest) turn not_idle
    (subst (λ ts. IsTurn done excused tree v f ts turn v' f') (of-alike first v a alike) made)

-- the list from a place on begins with what stands there
pub from-place : (attempts : List Attempt) (at : ℕ) → at < length attempts → drop at attempts ≡ get_or attempts at attempt.Hand ∷ drop (at + 1) attempts
from-place attempts at low = rw add-one (drop-cons attempts at attempt.Hand low)

-- a slice up to the end is the rest
pub rest-is : (attempts : List Attempt) (start : ℕ) → take (length attempts - start) (drop start attempts) ≡ drop start attempts
rest-is attempts start = let e = length-drop start attempts in take_all (length attempts - start) (drop start attempts) (omega arith)

-- ---- two parts of a list, one after the other
pub parts-on : {F : Type 0} (done : F → ℕ → Call → Given → F → Type 0) (excused : F → ℕ → Call → F → Type 0) (tree : Tree) (v u v' : State) (f g f' : F) (xs ys : List Attempt) (turn : Turn) →
    IsTurn done excused tree v f (tries_at v xs) Idle u g → IsTurn done excused tree u g (tries_at u ys) turn v' f' → IsTurn done excused tree v f (tries_at v (xs ++ ys)) turn v' f'
parts-on done excused tree v u v' f g f' xs ys turn passed later =
    let alike = idle-alike done excused tree v u f g (tries_at v xs) passed in
    rw (all_tries-append v.number v.shape.stages v.stack v.hand xs ys)
    (turn-idle done excused tree v u v' f g f' (tries_at v xs) (tries_at v ys) turn passed
    (subst (λ ts. IsTurn done excused tree u g ts turn v' f') (at-alike v u ys alike) later))

pub parts-made : {F : Type 0} (done : F → ℕ → Call → Given → F → Type 0) (excused : F → ℕ → Call → F → Type 0) (tree : Tree) (v v' : State) (f f' : F) (xs ys : List Attempt) (turn : Turn) →
    (turn ≡ Idle → ⊥) → IsTurn done excused tree v f (tries_at v xs) turn v' f' → IsTurn done excused tree v f (tries_at v (xs ++ ys)) turn v' f'
parts-made done excused tree v v' f f' xs ys turn not_idle made =
    rw (all_tries-append v.number v.shape.stages v.stack v.hand xs ys)
    (turn-made done excused tree v v' f f' (tries_at v xs) (tries_at v ys) turn not_idle made)

-- the list of a turn, begun where the policy says
pub round-begun : (v : State) (state : HandState) (list items : List Attempt) (look : Look) (answer : Look → ℕ) (at start : ℕ) → state ≡ hand_state_of v → list ≡ actions_of state → items ≡ list →
    look ≡ record (look_of v) { count = length items } → at ≡ answer look % look.count → start ≡ start_at items at →
    turn_tries v (answer (look_of v)) ≡ tries_at v (drop start items ++ take start items)
round-begun v state list items look answer at start state_is list_is items_is look_is at_is start_is =
    let all = actions_of (hand_state_of v) in
    let a : items ≡ all = items_is ∙ list_is ∙ ap actions_of state_is in
    let l : look ≡ look_of v = look_is ∙ ap (λ n. record (look_of v) { count = n }) (ap length a) in
    let first = start_at all (answer (look_of v) % length all) in
    let s : start ≡ first = start_is ∙ ap (start_at items) (at_is ∙ ap (λ (k : Look). answer k % k.count) l) ∙ ap (λ xs. start_at xs (answer (look_of v) % length all)) a in
    sym (ap (λ n. tries_at v (drop n items ++ take n items)) s ∙ ap (λ xs. tries_at v (drop first xs ++ take first xs)) a)

-- ---- a list of one attempt
sole-begun : (v : State) (answer : ℕ) (a : Attempt) → is_retire (Some a) ≡ false →
    tries_at v (begun_at (start_at (a ∷ []) (answer % 1)) (a ∷ [])) ≡ tries_of v.number v.shape.stages v.stack v.hand a
sole-begun v answer a other =
    let first : answer % 1 ≡ 0 = omega arith in
    rw (first, other) (append-nil (tries_of v.number v.shape.stages v.stack v.hand a))

pub sole-tries : (v : State) (answer : ℕ) (a : Attempt) → actions_of (hand_state_of v) ≡ a ∷ [] → is_retire (Some a) ≡ false →
    turn_tries v answer ≡ tries_of v.number v.shape.stages v.stack v.hand a
sole-tries v answer a sole other =
    ap (λ attempts. tries_at v (begun_at (start_at attempts (answer % length attempts)) attempts)) sole ∙ sole-begun v answer a other

busy-number : (hand : Hand) → is_free hand ≡ false → nat_eq (hand_number hand) 0 ≡ false
busy-number Free e = cc
busy-number (Charged stage to) e = refl
busy-number (Posted message) e = refl
busy-number (Popped message) e = refl
busy-number (Emptied from stage) e = refl

hand-list : (v : State) → is_free v.hand ≡ false → actions_of (hand_state_of v) ≡ attempt.Hand ∷ []
hand-list v busy = rw (busy-number v.hand busy) refl

advance-list : (v : State) → own_guard (event.Advance 0) v ≡ None → actions_of (hand_state_of v) ≡ attempt.Advance ∷ []
advance-list v own =
    let at = advance-facts v own in
    rw (at.1.1.hand, at.1.1.stack) (rw (at.1.1.over, at.1.1.wait) refl)

pub hand-tries : (v : State) (answer : ℕ) → is_free v.hand ≡ false → turn_tries v answer ≡ tries_of v.number v.shape.stages v.stack v.hand attempt.Hand
hand-tries v answer busy = sole-tries v answer attempt.Hand (hand-list v busy) refl

pub advance-tries : (v : State) (answer : ℕ) → own_guard (event.Advance 0) v ≡ None → turn_tries v answer ≡ Step (event.Advance v.number) ∷ []
advance-tries v answer own = sole-tries v answer attempt.Advance (advance-list v own) refl

-- ---- the count of idle turns is nobody else's
idle-hand : (v : State) (idle : ℕ) (hand : Hand) → IsHand v hand → IsHand (record v { idle = idle }) hand
idle-hand v idle Free h = h
idle-hand v idle (Charged stage to) h = h
idle-hand v idle (Posted message) h = h
idle-hand v idle (Popped message) h = h
idle-hand v idle (Emptied from stage) h = h

idle-keeps : (v : State) (idle : ℕ) → IsWorker v → IsWorker (record v { idle = idle })
idle-keeps v idle h = record {
  shape = h.shape;
  machine = h.machine;
  stack = h.stack;
  slots = h.slots;
  hand = idle-hand v idle v.hand h.hand;
  mark_stages = h.mark_stages;
  mark_machines = h.mark_machines;
}

pub idle-fits : {F : Type 0} (agrees : F → ℕ → Holding → Type 0) (shape : F → Extents) (roots : F → ℕ → ℕ) (tree : Tree) (v : State) (f : F) (idle : ℕ) →
    Fits agrees shape roots tree v f → Fits agrees shape roots tree (record v { idle = idle }) f
idle-fits agrees shape roots tree v f idle h = record {
  worker = idle-keeps v idle h.worker;
  number = h.number;
  within = h.within;
  tree_fits = h.tree_fits;
  same_shape = h.same_shape;
  same_roots = h.same_roots;
  holding = h.holding;
  holds = record {
    enrolled = h.holds.enrolled;
    opens = h.holds.opens;
    works = h.holds.works;
    buffers = h.holds.buffers;
    seen = h.holds.seen;
    marked = h.holds.marked;
    unmarked = h.holds.unmarked;
  };
  agreed = h.agreed;
}
