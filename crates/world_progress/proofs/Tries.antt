-- What it says of a worker that none of its attempts succeeds.
use Rattle.std.proofs.Common.{◌≡◌, ◌⊎◌, inl, inr, ℕ, ◌+◌, ◌-◌, ◌*◌, ◌<◌, ◌≤◌, Bool, true, false, cond, not, ◌&&◌, List, [], ◌∷◌, length, take, drop, Option, Some, None, is_some, refl, sym, ap, subst, ◌∙◌, arith, zero, suc}
use Rattle.std.specs.Prelude.{slice_get, nat_lt, nat_eq, IfNone}
use Rattle.std.proofs.lemmas.Bool.{cases_lt, eqb-true}
use Rattle.std.proofs.lemmas.Bool.Decides.{nat_tests}
use Rattle.std.proofs.lemmas.Option.{none-some, slice_get_within}
use Rattle.bfs_budget.specs.declared.tries.Attempt.{Attempt}
use Rattle.bfs_budget.specs.declared.tries.Attempt.TheVariants as attempt
use Rattle.match_context.specs.declared.context.Context.{Context}
use Rattle.match_context.specs.declared.frame.Frame.{Frame}
use Rattle.match_context.specs.declared.message.Message.{Message}
use Rattle.fabric.specs.Calls.{pop_answer, first_in}
use Rattle.fabric.specs.Shared.{Shared, inbox_place, inbox_at}
use Rattle.dfs_worker.specs.declared.event.Event.{Event}
use Rattle.dfs_worker.specs.declared.event.Event.TheVariants as event
use Rattle.dfs_worker.specs.declared.guard.Guard.{Guard}
use Rattle.dfs_worker.specs.declared.guard.Guard.TheVariants as guard
use Rattle.dfs_worker.specs.declared.hand.Hand.{Hand}
use Rattle.dfs_worker.specs.declared.hand.Hand.TheVariants.{Free, Charged, Posted, Popped, Emptied}
use Rattle.dfs_worker.specs.Guards.{own_guard, must, has_top}
use Rattle.dfs_worker.specs.State.{State, is_free, is_over}
use Rattle.dfs_worker.proofs.Facts.{must-none, free-hand, start-facts, advance-facts, charged-facts, post-facts, push-facts, pick-facts, restore-facts, discharge-facts}
use Rattle.dfs_worker.proofs.Places.{open-facts}
use Rattle.world_core.specs.Rows.{IsFinished}
use Rattle.world_core.specs.Sound.{Sound}
use Rattle.world_core.specs.Step.{guard_of, worker_of, is_event_word, can_mark}
use Rattle.world_core.specs.World.{World}
use Rattle.world_core.proofs.Marks.{and-true}
use Rattle.world_core.proofs.Parts.{Enabled, enabled-facts}
use Rattle.world_core.proofs.Travels.{shape-of}
use Rattle.world_progress.specs.Choice.{IsOff, Fails, AllFail, waiting_list, empty_list}
use Rattle.world_progress.specs.Stuck.{IsIdle, IsStuck}
use Rattle.world_progress.proofs.Stuck.{never_stuck}

-- the worker of an enabled event
pub on-worker : (w : World) (e : Event) (v : State) → slice_get w.workers (worker_of e) ≡ Some v → guard_of w e ≡ None → Enabled w e v
on-worker w e v at g =
    let x = enabled-facts w e g in
    let there = x.1.at in
    let same : x.0 ≡ v = cc in
    subst (λ u. Enabled w e u) same x.1

-- ---- an enabled event names what there is
pub pop-within : (w : World) (i k : ℕ) → guard_of w (event.Pop i k) ≡ None → k < w.shared.shape.stages
pop-within w i k g =
    let x = enabled-facts w (event.Pop i k) g in
    let some = (must-none (is_some (pop_answer w.shared x.0.machine k)) guard.Inbox None x.1.shared).0 in
    go (nat_lt k w.shared.shape.stages) refl x.0.machine some
  where
    go : (b : Bool) → nat_lt k w.shared.shape.stages ≡ b → (m : ℕ) → is_some (pop_answer w.shared m k) ≡ true → k < w.shared.shape.stages
    go true e m some = grind (arith, nat_tests, e)
    go false e m some =
        let none : inbox_at w.shared m k ≡ None = ap (λ t. cond (nat_lt 0 k && t) (slice_get w.shared.inboxes (inbox_place w.shared m k)) None) e ∙ empty (nat_lt 0 k) in
        let clash : false ≡ true = sym (ap (λ o. is_some (first_in o)) none) ∙ some in
        cc
      where
        empty : (b : Bool) → cond (b && false) (slice_get w.shared.inboxes (inbox_place w.shared m k)) None ≡ None
        empty true = refl
        empty false = refl

pub post-within : (w : World) (i k n : ℕ) → Sound w → guard_of w (event.Post i k n) ≡ None → (k < w.shared.shape.stages) × (n < w.shared.shape.machines)
post-within w i k n sound g =
    let x = enabled-facts w (event.Post i k n) g in
    let v = x.0 in
    let f = post-facts v k n x.1.own in
    let at = open-facts v.slots k n f.0 f.1.1 in
    let own = (sound.own i v x.1.at).slots in
    let shape = shape-of w i v sound x.1.at in
    let stages = own.stages ∙ ap (λ s. s.stages) shape in
    let machines = own.machines ∙ ap (λ s. s.machines) shape in
    let a = at.stage_in in
    let b = at.to_in in
    (omega arith, omega arith)

pub mark-within : (w : World) (i a b : ℕ) → Sound w → guard_of w (event.Mark i a b) ≡ None → (a < w.shared.shape.machines) × (b < w.shared.shape.machines)
mark-within w i a b sound g =
    let s = w.shared in
    let x = enabled-facts w (event.Mark i a b) g in
    let can = (must-none (can_mark s x.0.marks a b) guard.Word None x.1.shared).0 in
    let is = (and-true (is_event_word s a b) _ can).0 in
    let p = and-true (nat_lt s.closed s.shape.stages) (nat_lt a s.shape.machines && cond (nat_eq s.closed 0) (nat_eq b 0) (nat_lt b s.shape.machines)) is in
    let q = and-true (nat_lt a s.shape.machines) (cond (nat_eq s.closed 0) (nat_eq b 0) (nat_lt b s.shape.machines)) p.1 in
    let from : nat_lt a s.shape.machines ≡ true = q.0 in
    (grind (arith, nat_tests, from), second (nat_eq s.closed 0) q.1)
  where
    second : (t : Bool) → cond t (nat_eq b 0) (nat_lt b w.shared.shape.machines) ≡ true → b < w.shared.shape.machines
    second true e = let zero_is = eqb-true b 0 e in let some = sound.tables.shape.some_machine in omega arith
    second false e = grind (arith, nat_tests, e)

-- ---- the events of a range
pub pops-fail : (w : World) (i stages : ℕ) → stages ≡ w.shared.shape.stages → ((k : ℕ) → 0 ≤ k → k < stages → IsOff w (event.Pop i k)) → Fails w i attempt.Pop
pops-fail w i stages same off k g = off k (omega arith) (let a = pop-within w i k g in omega arith) g

pub posts-fail : (w : World) (i stages : ℕ) → Sound w → stages ≡ w.shared.shape.stages → ((k n : ℕ) → 0 ≤ k → k < stages → n < w.shared.shape.machines → IsOff w (event.Post i k n)) → Fails w i attempt.PostOthers
posts-fail w i stages sound same off k n g = let a = post-within w i k n sound g in let b = a.0 in off k n (omega arith) (omega arith) a.1 g

pub marks-fail : (w : World) (i machines : ℕ) → Sound w → machines ≡ w.shared.shape.machines → ((a b : ℕ) → a < machines → b < w.shared.shape.machines → IsOff w (event.Mark i a b)) → Fails w i attempt.Mark
marks-fail w i machines sound same off a b g = let x = mark-within w i a b sound g in let y = x.0 in off a b (omega arith) x.1 g

-- ---- the hand
free-of : (v : State) (later : Option Guard) → must (is_free v.hand) guard.Hand later ≡ None → v.hand ≡ Free
free-of v later g = free-hand v.hand (must-none (is_free v.hand) guard.Hand later g).0

pub hand-free_fails : (w : World) (i : ℕ) (v : State) → slice_get w.workers i ≡ Some v → v.hand ≡ Free → Fails w i attempt.Hand
hand-free_fails w i v at free = (
  λ g. let f = charged-facts v (on-worker w (event.Fetch i) v at g).own in let e = f.1.1 in cc,
  λ g. let f = push-facts v (on-worker w (event.Push i) v at g).own in let e = f.1 in cc,
  λ g. let f = pick-facts v (on-worker w (event.Pick i) v at g).own in let e = f.1 in cc,
  λ g. let f = discharge-facts v (on-worker w (event.Discharge i) v at g).own in let e = f.1.1 in cc,
)

pub hand-charged_fails : (w : World) (i k n : ℕ) (v : State) → slice_get w.workers i ≡ Some v → v.hand ≡ Charged k n → IsOff w (event.Fetch i) → Fails w i attempt.Hand
hand-charged_fails w i k n v at hand off = (
  off,
  λ g. let f = push-facts v (on-worker w (event.Push i) v at g).own in let e = f.1 in cc,
  λ g. let f = pick-facts v (on-worker w (event.Pick i) v at g).own in let e = f.1 in cc,
  λ g. let f = discharge-facts v (on-worker w (event.Discharge i) v at g).own in let e = f.1.1 in cc,
)

pub hand-posted_fails : (w : World) (i : ℕ) (b : Message) (v : State) → slice_get w.workers i ≡ Some v → v.hand ≡ Posted b → IsOff w (event.Push i) → Fails w i attempt.Hand
hand-posted_fails w i b v at hand off = (
  λ g. let f = charged-facts v (on-worker w (event.Fetch i) v at g).own in let e = f.1.1 in cc,
  off,
  λ g. let f = pick-facts v (on-worker w (event.Pick i) v at g).own in let e = f.1 in cc,
  λ g. let f = discharge-facts v (on-worker w (event.Discharge i) v at g).own in let e = f.1.1 in cc,
)

pub hand-popped_fails : (w : World) (i : ℕ) (b : Message) (v : State) → slice_get w.workers i ≡ Some v → v.hand ≡ Popped b → IsOff w (event.Pick i) → Fails w i attempt.Hand
hand-popped_fails w i b v at hand off = (
  λ g. let f = charged-facts v (on-worker w (event.Fetch i) v at g).own in let e = f.1.1 in cc,
  λ g. let f = push-facts v (on-worker w (event.Push i) v at g).own in let e = f.1 in cc,
  off,
  λ g. let f = discharge-facts v (on-worker w (event.Discharge i) v at g).own in let e = f.1.1 in cc,
)

pub hand-emptied_fails : (w : World) (i m k : ℕ) (v : State) → slice_get w.workers i ≡ Some v → v.hand ≡ Emptied m k → IsOff w (event.Discharge i) → Fails w i attempt.Hand
hand-emptied_fails w i m k v at hand off = (
  λ g. let f = charged-facts v (on-worker w (event.Fetch i) v at g).own in let e = f.1.1 in cc,
  λ g. let f = push-facts v (on-worker w (event.Push i) v at g).own in let e = f.1 in cc,
  λ g. let f = pick-facts v (on-worker w (event.Pick i) v at g).own in let e = f.1 in cc,
  off,
)

-- ---- a worker without an enabled event
renumber : (w : World) (i j : ℕ) (e : ℕ → Event) → j ≡ i → guard_of w (e j) ≡ None → guard_of w (e i) ≡ None
renumber w i j e same g = subst (λ x. guard_of w (e x) ≡ None) same g

-- what is in hand comes first
pub idle-hand : (w : World) (i : ℕ) (v : State) → slice_get w.workers i ≡ Some v → (v.hand ≡ Free → ⊥) → Fails w i attempt.Hand → IsIdle w i
idle-hand w i v at busy fails e own g = go e own g
  where
    here : (e : Event) → worker_of e ≡ i → guard_of w e ≡ None → own_guard e v ≡ None
    here e own g = (on-worker w e v (ap (slice_get w.workers) own ∙ at) g).own

    go : (e : Event) → worker_of e ≡ i → guard_of w e ≡ None → ⊥
    go (event.Claim j) own g = busy (free-of v _ (here (event.Claim j) own g))
    go (event.Retire j) own g = busy (free-of v _ (here (event.Retire j) own g))
    go (event.Advance j) own g = busy (free-of v _ (here (event.Advance j) own g))
    go (event.Descend j) own g = busy (free-of v _ (here (event.Descend j) own g))
    go (event.Append j) own g = busy (free-of v _ (here (event.Append j) own g))
    go (event.Charge j) own g = busy (free-of v _ (here (event.Charge j) own g))
    go (event.Fetch j) own g = fails.0 (renumber w i j event.Fetch own g)
    go (event.Post j k n) own g = busy (free-of v _ (here (event.Post j k n) own g))
    go (event.Push j) own g = fails.1 (renumber w i j event.Push own g)
    go (event.Pop j k) own g = busy (free-of v _ (here (event.Pop j k) own g))
    go (event.Pick j) own g = fails.2 (renumber w i j event.Pick own g)
    go (event.Restore j) own g = busy (free-of v _ (here (event.Restore j) own g))
    go (event.Discharge j) own g = fails.3 (renumber w i j event.Discharge own g)
    go (event.Mark j a b) own g = busy (free-of v _ (here (event.Mark j a b) own g))
    go (event.Close j) own g = busy (free-of v _ (here (event.Close j) own g))

-- events of a top want one
no-top : (v : State) (later : Option Guard) → v.stack ≡ [] → must (is_free v.hand) guard.Hand (must (has_top v.stack) guard.Stack later) ≡ None → ⊥
no-top v later empty g =
    let top = (must-none (has_top v.stack) guard.Stack later (must-none (is_free v.hand) guard.Hand _ g).1).0 in
    let none = ap has_top empty in
    cc

pub idle-empty : (w : World) (i : ℕ) (v : State) → slice_get w.workers i ≡ Some v → v.hand ≡ Free → v.stack ≡ [] → AllFail w i empty_list → IsIdle w i
idle-empty w i v at free empty fails e own g = go e own g
  where
    here : (e : Event) → worker_of e ≡ i → guard_of w e ≡ None → own_guard e v ≡ None
    here e own g = (on-worker w e v (ap (slice_get w.workers) own ∙ at) g).own

    hand : Fails w i attempt.Hand
    hand = hand-free_fails w i v at free

    go : (e : Event) → worker_of e ≡ i → guard_of w e ≡ None → ⊥
    go (event.Claim j) own g = fails 2 attempt.Claim refl (renumber w i j event.Claim own g)
    go (event.Retire j) own g = fails 3 attempt.Retire refl (renumber w i j event.Retire own g)
    go (event.Advance j) own g = no-top v _ empty (here (event.Advance j) own g)
    go (event.Descend j) own g = no-top v _ empty (here (event.Descend j) own g)
    go (event.Append j) own g = no-top v _ empty (here (event.Append j) own g)
    go (event.Charge j) own g = no-top v _ empty (here (event.Charge j) own g)
    go (event.Fetch j) own g = hand.0 (renumber w i j event.Fetch own g)
    go (event.Post j k n) own g = fails 1 attempt.PostOthers refl k n (renumber w i j (λ x. event.Post x k n) own g)
    go (event.Push j) own g = hand.1 (renumber w i j event.Push own g)
    go (event.Pop j k) own g = fails 0 attempt.Pop refl k (renumber w i j (λ x. event.Pop x k) own g)
    go (event.Pick j) own g = hand.2 (renumber w i j event.Pick own g)
    go (event.Restore j) own g = no-top v _ empty (here (event.Restore j) own g)
    go (event.Discharge j) own g = hand.3 (renumber w i j event.Discharge own g)
    go (event.Mark j a b) own g = fails 4 attempt.Mark refl a b (renumber w i j (λ x. event.Mark x a b) own g)
    go (event.Close j) own g = fails 5 attempt.Close refl (renumber w i j event.Close own g)

pub idle-waits : (w : World) (i : ℕ) (v : State) (f : Frame) (fs : List Frame) (child : Context × ℕ) → slice_get w.workers i ≡ Some v → v.hand ≡ Free → v.stack ≡ f ∷ fs → f.wait ≡ Some child → is_over f.rest ≡ false →
    AllFail w i waiting_list → IsIdle w i
idle-waits w i v f fs child at free stack wait over fails e own g = go e own g
  where
    here : (e : Event) → worker_of e ≡ i → guard_of w e ≡ None → own_guard e v ≡ None
    here e own g = (on-worker w e v (ap (slice_get w.workers) own ∙ at) g).own

    hand : Fails w i attempt.Hand
    hand = hand-free_fails w i v at free

    go : (e : Event) → worker_of e ≡ i → guard_of w e ≡ None → ⊥
    go (event.Claim j) own g = let s = (start-facts v (here (event.Claim j) own g)).stack in cc
    go (event.Retire j) own g = let s = (start-facts v (here (event.Retire j) own g)).stack in cc
    go (event.Advance j) own g =
        let top = advance-facts v (here (event.Advance j) own g) in
        let there = top.1.1.stack in
        let none = top.1.1.wait in
        let same : top.0 ≡ f = cc in
        let waits = ap (λ (x : Frame). x.wait) same in
        cc
    go (event.Descend j) own g = fails 3 attempt.Descend refl (renumber w i j event.Descend own g)
    go (event.Append j) own g = fails 1 attempt.Append refl (renumber w i j event.Append own g)
    go (event.Charge j) own g = fails 2 attempt.Charge refl (renumber w i j event.Charge own g)
    go (event.Fetch j) own g = hand.0 (renumber w i j event.Fetch own g)
    go (event.Post j k n) own g = fails 4 attempt.PostOthers refl k n (renumber w i j (λ x. event.Post x k n) own g)
    go (event.Push j) own g = hand.1 (renumber w i j event.Push own g)
    go (event.Pop j k) own g = fails 5 attempt.Pop refl k (renumber w i j (λ x. event.Pop x k) own g)
    go (event.Pick j) own g = hand.2 (renumber w i j event.Pick own g)
    go (event.Restore j) own g =
        let r = restore-facts v (here (event.Restore j) own g) in
        let there = r.1.1.1.1.stack in
        let rest = r.1.1.1.1.rest in
        let same : r.0 ≡ f = cc in
        let ends = sym (ap (λ (x : Frame). is_over x.rest) same) ∙ ap is_over rest in
        cc
    go (event.Discharge j) own g = hand.3 (renumber w i j event.Discharge own g)
    go (event.Mark j a b) own g = fails 6 attempt.Mark refl a b (renumber w i j (λ x. event.Mark x a b) own g)
    go (event.Close j) own g = fails 7 attempt.Close refl (renumber w i j event.Close own g)

-- ---- a world without one
pub all-idle : (w : World) → Sound w → ((i : ℕ) → i < length w.workers → IsIdle w i) → IsFinished w
all-idle w sound idle =
    never_stuck w sound (λ e g. let x = enabled-facts w e g in idle (worker_of e) (slice_get_within w.workers (worker_of e) x.0 x.1.at) e refl g)

-- ---- answers
pub none-of : {A : Type 0} (P : Type 0) (o : Option A) (r : Bool) → r ≡ is_some o → r ≡ false → IfNone o P → P
none-of P None r is no_one p = p
none-of P (Some x) r is no_one p = let clash : true ≡ false = sym is ∙ no_one in cc

pub if-none : {A : Type 0} (P Q : Type 0) (o : Option A) → IfNone o P → (P → Q) → IfNone o Q
if-none P Q None p f = f p
if-none P Q (Some x) p f = tt

pub some-of : {A : Type 0} (o : Option A) → is_some o ≡ true → (x : A) × (o ≡ Some x)
some-of None e = cc
some-of (Some x) e = (x, refl)

-- ---- the attempts from one on, and those before it
take-get : {A : Type 0} (n : ℕ) (xs : List A) (i : ℕ) → i < n → slice_get (take n xs) i ≡ slice_get xs i
take-get zero xs i low = absurd (omega arith)
take-get (suc n) [] i low = refl
take-get (suc n) (x ∷ xs) zero low = refl
take-get (suc n) (x ∷ xs) (suc i) low = take-get n xs i (omega arith)

drop-get : {A : Type 0} (n : ℕ) (xs : List A) (i : ℕ) → slice_get (drop n xs) i ≡ slice_get xs (n + i)
drop-get zero xs i = let e : zero + i ≡ i = omega arith in rw e refl
drop-get (suc n) [] i = refl
drop-get (suc n) (x ∷ xs) i = let e : suc n + i ≡ suc (n + i) = omega arith in rw e (drop-get n xs i)

pub parts-fail : (w : World) (i start : ℕ) (xs : List Attempt) → AllFail w i (take (length xs - start) (drop start xs)) → AllFail w i (take start xs) → AllFail w i xs
parts-fail w i start xs late early at x e =
    let within = slice_get_within xs at x e in
    elim (cases_lt at start) [
      | inl before ↦ early at x (take-get start xs at before ∙ e)
      | inr after ↦ (let back : start + (at - start) ≡ at = omega arith in
          late (at - start) x (take-get (length xs - start) (drop start xs) (at - start) (omega arith) ∙ drop-get start xs (at - start) ∙ ap (slice_get xs) back ∙ e))
    ]
