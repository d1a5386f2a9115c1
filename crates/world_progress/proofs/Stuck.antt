-- A world in which no event is enabled is finished.
use Rattle.std.proofs.Common.{◌≡◌, ◌≢◌, ◌⊎◌, inl, inr, ℕ, ◌+◌, ◌-◌, ◌*◌, ◌/◌, ◌%◌, ◌<◌, ◌≤◌, Bool, true, false, cond, not, ◌&&◌, eqb, ltb, List, [], ◌∷◌, length, get_or, Option, Some, None, is_some, refl, sym, ap, subst, ◌∙◌, arith, zero, suc}
use Rattle.std.specs.Prelude.{slice_get, nat_lt, nat_le, nat_eq, ◌==◌}
use Rattle.std.specs.List.{list_all}
use Rattle.std.proofs.lemmas.Bool.{cases_lt, cases_eq, eqb-true, eqb-false, eq-eqb, ne_eqb}
use Rattle.std.proofs.lemmas.Bool.Decides.{nat_tests}
use Rattle.std.proofs.lemmas.Nat.{div_below}
use Rattle.std.proofs.lemmas.Option.{none-some}
use Rattle.adfs_base.specs.Shape.{Extents, limit_of}
use Rattle.adfs_base.specs.declared.step_answers.Word.{Word}
use Rattle.adfs_base.specs.declared.step_answers.Word.TheVariants.{Enrolled, Used}
use Rattle.match_context.specs.Bags.{total}
use Rattle.match_context.specs.declared.context.Context.{Context}
use Rattle.match_context.specs.declared.frame.Frame.{Frame}
use Rattle.match_context.specs.declared.frame.Rest.{Rest}
use Rattle.match_context.specs.declared.frame.Rest.TheVariants as rest
use Rattle.match_context.specs.declared.message.Message.{Message}
use Rattle.stage_termination.specs.Marks.{Marks, words_of, place_of, is_word, is_marked, is_ready}
use Rattle.fabric.specs.Calls.{can_claim, can_charge, can_push, can_pick, can_fetch, pop_answer, first_in}
use Rattle.fabric.specs.Shared.{Shared, IsUnit, IsWordOf, used_at, flying_at, cursor_at, roots_at, enrolled_at, pool_at, inbox_place, inbox_at, word_at}
use Rattle.dfs_worker.specs.declared.event.Event.{Event}
use Rattle.dfs_worker.specs.declared.event.Event.TheVariants as event
use Rattle.dfs_worker.specs.declared.guard.Guard.{Guard}
use Rattle.dfs_worker.specs.declared.guard.Guard.TheVariants as guard
use Rattle.dfs_worker.specs.declared.hand.Hand.{Hand}
use Rattle.dfs_worker.specs.declared.hand.Hand.TheVariants.{Free, Charged, Posted, Popped, Emptied}
use Rattle.dfs_worker.specs.Census.{Census, count, credits_of, flying_of, of_slot, of_rest, of_stack, of_hand, one}
use Rattle.dfs_worker.specs.Census as census
use Rattle.dfs_worker.specs.Guards.{own_guard, must, is_charged, is_posted, is_popped, is_emptied}
use Rattle.dfs_worker.specs.Own.{event_word}
use Rattle.dfs_worker.specs.Slots.{open_at, is_open, slot_of}
use Rattle.dfs_worker.specs.Sound.{IsStack, StandsOn}
use Rattle.dfs_worker.specs.State.{State, next_stage, waiting, waiting_by, is_over}
use Rattle.world_core.specs.Rows.{IsFinished}
use Rattle.world_core.specs.Sound.{Sound, queued, enrolled_of}
use Rattle.world_core.specs.Step.{guard_of, guard_at, worker_of, shared_guard, then_guard, posted_test, popped_test, can_charge_for, is_event_word, has_mark, has_all_marks, can_mark}
use Rattle.world_core.specs.World.{World}
use Rattle.world_core.proofs.Ends.{get-within, get-slot, slot-get, machine-worker, is-false, total-none}
use Rattle.world_core.proofs.Marks.{and-true, event-word}
use Rattle.world_core.proofs.Parts.{machine-in}
use Rattle.world_core.proofs.Travels.{shape-of}
use Rattle.world_core.proofs.Words.{word-tells}
use Rattle.world_progress.specs.Stuck.{IsStuck, NeverStuck}
use Rattle.world_progress.proofs.Hands.{pool-some, inbox-space, can-pick}

-- ---- which events are enabled
pub enabled : (w : World) (i : ℕ) (v : State) (e : Event) → slice_get w.workers i ≡ Some v → worker_of e ≡ i → own_guard e v ≡ None → shared_guard e v w.shared ≡ None → guard_of w e ≡ None
enabled w i v e at same own shared =
    ap (λ o. guard_at e o w.shared) (ap (slice_get w.workers) same ∙ at) ∙ ap (λ g. then_guard g (shared_guard e v w.shared)) own ∙ shared

advance-own : (v : State) (f : Frame) (fs : List Frame) → v.hand ≡ Free → v.stack ≡ f ∷ fs → f.wait ≡ None → is_over f.rest ≡ false → own_guard (event.Advance 0) v ≡ None
advance-own v f fs hand stack wait over = rw (hand, stack, wait, over) refl

restore-own : (v : State) (f : Frame) (fs : List Frame) → v.hand ≡ Free → v.stack ≡ f ∷ fs → is_over f.rest ≡ true → own_guard (event.Restore 0) v ≡ None
restore-own v f fs hand stack over = rw (hand, stack, over) refl

descend-own : (v : State) (f : Frame) (fs : List Frame) (child : Context × ℕ) → v.hand ≡ Free → v.stack ≡ f ∷ fs → f.wait ≡ Some child → child.1 ≡ v.machine → own_guard (event.Descend 0) v ≡ None
descend-own v f fs child hand stack wait near = let e = eq-eqb child.1 v.machine near in rw (hand, stack, wait, e) refl

charge-own : (v : State) (f : Frame) (fs : List Frame) (child : Context × ℕ) → v.hand ≡ Free → v.stack ≡ f ∷ fs → f.wait ≡ Some child → open_at v.slots (f.stage + 1) child.1 ≡ None → own_guard (event.Charge 0) v ≡ None
charge-own v f fs child hand stack wait none = rw (hand, stack, wait, none) refl

post-own : (v : State) (k n : ℕ) (b : Message) → v.hand ≡ Free → open_at v.slots k n ≡ Some b → own_guard (event.Post 0 k n) v ≡ None
post-own v k n b hand there = rw (hand, there) refl

pop-own : (v : State) (k : ℕ) → v.hand ≡ Free → next_stage v.stack ≤ k → own_guard (event.Pop 0 k) v ≡ None
pop-own v k hand above = let e : nat_le (next_stage v.stack) k ≡ true = grind (arith, nat_tests) in rw (hand, e) refl

start-own : (v : State) → v.hand ≡ Free → v.stack ≡ [] → v.enrolled ≡ true → own_guard (event.Claim 0) v ≡ None
start-own v hand stack enrolled = rw (hand, stack, enrolled) refl

mark-own : (v : State) → v.hand ≡ Free → own_guard (event.Close 0) v ≡ None
mark-own v hand = rw hand refl

-- ---- hands are free, and no buffer is open
hand-free : (w : World) (i : ℕ) (v : State) (hand : Hand) → Sound w → IsStuck w → slice_get w.workers i ≡ Some v → v.hand ≡ hand → hand ≡ Free
hand-free w i v Free sound stuck at e = refl
hand-free w i v (Charged k n) sound stuck at e =
    let some = pool-some w i k n v sound at e in
    let test : nat_lt 0 (pool_at w.shared v.machine) ≡ true = grind (arith, nat_tests) in
    absurd (stuck (event.Fetch i) (enabled w i v (event.Fetch i) at refl (ap (λ h. must (is_charged h) guard.Hand None) e) (ap (λ t. must t guard.Pool None) test)))
hand-free w i v (Posted b) sound stuck at e =
    let space = ap (posted_test (λ message. can_push w.shared message.to message.stage)) e ∙ inbox-space w i v b sound at e in
    absurd (stuck (event.Push i) (enabled w i v (event.Push i) at refl (ap (λ h. must (is_posted h) guard.Hand None) e) (ap (λ t. must t guard.Inbox None) space)))
hand-free w i v (Popped b) sound stuck at e =
    let flies = ap (popped_test (λ message. can_pick w.shared message.from message.stage message.to)) e ∙ can-pick w i v b sound at e in
    absurd (stuck (event.Pick i) (enabled w i v (event.Pick i) at refl (ap (λ h. must (is_popped h) guard.Hand None) e) (ap (λ t. must t guard.Flying None) flies)))
hand-free w i v (Emptied m k) sound stuck at e =
    absurd (stuck (event.Discharge i) (enabled w i v (event.Discharge i) at refl (ap (λ h. must (is_emptied h) guard.Hand None) e) refl))

free : (w : World) (i : ℕ) (v : State) → Sound w → IsStuck w → slice_get w.workers i ≡ Some v → v.hand ≡ Free
free w i v sound stuck at = hand-free w i v v.hand sound stuck at refl

none-open : (w : World) (i k n : ℕ) (v : State) (o : Option Message) → Sound w → IsStuck w → slice_get w.workers i ≡ Some v → open_at v.slots k n ≡ o → o ≡ None
none-open w i k n v None sound stuck at e = refl
none-open w i k n v (Some b) sound stuck at e = absurd (stuck (event.Post i k n) (enabled w i v (event.Post i k n) at refl (post-own v k n b (free w i v sound stuck at) e) refl))

-- ---- a stack that isn't empty waits at a full limit
pub record Blocked (w : World) (v : State) (k : ℕ) : Type 0 where
  pub to : ℕ
  pub unit : IsUnit w.shared v.machine k to
  pub some : 0 < used_at w.shared v.machine k to

child-blocked : (w : World) (i : ℕ) (v : State) (f : Frame) (fs : List Frame) (child : Context × ℕ) → Sound w → IsStuck w → slice_get w.workers i ≡ Some v → v.stack ≡ f ∷ fs → f.wait ≡ Some child →
    (child.1 ≡ v.machine) ⊎ (child.1 ≢ v.machine) → Blocked w v (f.stage + 1)
child-blocked w i v f fs child sound stuck at stack wait (inl near) =
    absurd (stuck (event.Descend i) (enabled w i v (event.Descend i) at refl (descend-own v f fs child (free w i v sound stuck at) stack wait near) refl))
child-blocked w i v f fs child sound stuck at stack wait (inr far) =
    let is = rw stack at (sound.own i v at).stack in
    let low = rw wait at is.0.wait in
    let shape = shape-of w i v sound at in
    let stages = ap (λ x. x.stages) shape in
    let machines = ap (λ x. x.machines) shape in
    let here = machine-in w i v sound at in
    let l0 = low.0 in let l1 = low.1 in
    let unit : IsUnit w.shared v.machine (f.stage + 1) child.1 = (here, omega arith, omega arith, omega arith) in
    let none = none-open w i (f.stage + 1) child.1 v (open_at v.slots (f.stage + 1) child.1) sound stuck at refl in
    let limit : limit_of w.shared.shape v.machine child.1 ≡ w.shared.shape.credit = ap (λ t. cond t w.shared.shape.broad w.shared.shape.credit) (ne_eqb v.machine child.1 (λ e. far (sym e))) in
    let credit = sound.tables.shape.some_credit in
    elim (cases_lt (used_at w.shared v.machine (f.stage + 1) child.1) (limit_of w.shared.shape v.machine child.1)) [
      | inl left ↦ (let test : nat_lt (used_at w.shared v.machine (f.stage + 1) child.1) (limit_of w.shared.shape v.machine child.1) ≡ true = grind (arith, nat_tests) in
          let waits : waiting v.stack ≡ Some (f.stage + 1, child.1) = ap waiting stack ∙ ap (λ o. waiting_by (f.stage + 1) o) wait in
          let can = ap (can_charge_for w.shared v.machine) waits ∙ test in
          absurd (stuck (event.Charge i) (enabled w i v (event.Charge i) at refl (charge-own v f fs child (free w i v sound stuck at) stack wait none) (ap (λ t. must t guard.Limit None) can))))
      | inr full ↦ record { to = child.1; unit = unit; some = omega arith }
    ]

wait-blocked : (w : World) (i : ℕ) (v : State) (f : Frame) (fs : List Frame) (wait : Option (Context × ℕ)) → Sound w → IsStuck w → slice_get w.workers i ≡ Some v → v.stack ≡ f ∷ fs → f.wait ≡ wait → is_over f.rest ≡ false → Blocked w v (f.stage + 1)
wait-blocked w i v f fs None sound stuck at stack wait over =
    absurd (stuck (event.Advance i) (enabled w i v (event.Advance i) at refl (advance-own v f fs (free w i v sound stuck at) stack wait over) refl))
wait-blocked w i v f fs (Some child) sound stuck at stack wait over = child-blocked w i v f fs child sound stuck at stack wait (cases_eq child.1 v.machine)

top-blocked : (w : World) (i : ℕ) (v : State) (f : Frame) (fs : List Frame) → Sound w → IsStuck w → slice_get w.workers i ≡ Some v → v.stack ≡ f ∷ fs → Blocked w v (f.stage + 1)
top-blocked w i v f fs sound stuck at stack = go (is_over f.rest) refl
  where
    go : (b : Bool) → is_over f.rest ≡ b → Blocked w v (f.stage + 1)
    go true over = absurd (stuck (event.Restore i) (enabled w i v (event.Restore i) at refl (restore-own v f fs (free w i v sound stuck at) stack over) refl))
    go false over = wait-blocked w i v f fs f.wait sound stuck at stack refl over

-- ---- no credit is taken: those of the latest stage would be given back
-- stages rise, so all frames are below the stage above the top
stack-below : (shape : Extents) (enrolled : Bool) (machine k n m : ℕ) (fs : List Frame) → IsStack shape enrolled machine fs → next_stage fs ≤ k → of_stack (credits_of m k n).framed fs ≡ 0
stack-below shape enrolled machine k n m [] is low = refl
stack-below shape enrolled machine k n m (f ∷ fs) is low =
    let a = first f.rest is.0.stands in
    let b = stack-below shape enrolled machine k n m fs is.1 (below f.rest is.0.stands) in
    omega arith
  where
    below : (r : Rest) → StandsOn shape enrolled machine f.stage (next_stage fs) fs f.wait r → next_stage fs ≤ k
    below rest.None stands = let e = stands.0 in omega arith
    below (rest.Roots next end) stands = let e = ap next_stage stands.1 in omega arith
    below (rest.Items b next over) stands = let e = stands.above in omega arith

    first : (r : Rest) → StandsOn shape enrolled machine f.stage (next_stage fs) fs f.wait r → of_rest (credits_of m k n).framed r ≡ 0
    first rest.None stands = refl
    first (rest.Roots next end) stands = refl
    first (rest.Items b next over) stands =
        let same = stands.same_stage in
        elim (word-tells m k n b.from b.stage b.to) [ inl y ↦ absurd (let e = y.2 in omega arith) | inr z ↦ ap one z.0 ]

slots-none : (w : World) (i m k n : ℕ) (v : State) → Sound w → IsStuck w → slice_get w.workers i ≡ Some v → total (of_slot (credits_of m k n).opened) v.slots.messages ≡ 0
slots-none w i m k n v sound stuck at = total-none (of_slot (credits_of m k n).opened) v.slots.messages (λ place o e. each place o e)
  where
    each : (place : ℕ) (o : Option Message) → slice_get v.slots.messages place ≡ Some o → of_slot (credits_of m k n).opened o ≡ 0
    each place None e = refl
    each place (Some b) e =
        let own = sound.own i v at in
        let is = own.slots.each_open place b (get-slot v.slots.messages place b e) in
        let s = own.slots.stages in
        let q = own.slots.machines in
        let low = is.whole.stage in
        let here = is.whole.to in
        let t1 : nat_lt b.stage v.slots.stages ≡ true = grind (arith, nat_tests) in
        let t2 : nat_lt b.to v.slots.machines ≡ true = grind (arith, nat_tests) in
        let there : slot_of v.slots.machines b.stage b.to ≡ place = ap (λ x. slot_of x b.stage b.to) q ∙ is.place in
        let found : open_at v.slots b.stage b.to ≡ Some b =
        ap (λ t. cond (t && nat_lt b.to v.slots.machines) (get_or v.slots.messages (slot_of v.slots.machines b.stage b.to) None) None) t1
        ∙ ap (λ t. cond t (get_or v.slots.messages (slot_of v.slots.machines b.stage b.to) None) None) t2
        ∙ ap (λ x. get_or v.slots.messages x None) there ∙ get-slot v.slots.messages place b e in
        absurd (none-some b (sym (none-open w i b.stage b.to v (open_at v.slots b.stage b.to) sound stuck at refl) ∙ found))

-- the stage above the top of each stack is at most this one
abbrev Below : World → ℕ → Type 0
Below w k = (i : ℕ) (v : State) → slice_get w.workers i ≡ Some v → next_stage v.stack ≤ k

worker-none : (w : World) (i m k n : ℕ) (v : State) → Sound w → IsStuck w → Below w k → slice_get w.workers i ≡ Some v → count (credits_of m k n) v ≡ 0
worker-none w i m k n v sound stuck below at =
    let slots = slots-none w i m k n v sound stuck at in
    let hand = ap (of_hand (credits_of m k n) v.machine) (free w i v sound stuck at) in
    let stack = stack-below v.shape v.enrolled v.machine k n m v.stack (sound.own i v at).stack (below i v at) in
    omega arith

hand-none : (w : World) (i m k n : ℕ) (v : State) → Sound w → IsStuck w → slice_get w.workers i ≡ Some v → count (flying_of m k n) v ≡ 0
hand-none w i m k n v sound stuck at =
    let slots = total-none (of_slot (flying_of m k n).opened) v.slots.messages (λ place o e. slot o) in
    let hand = ap (of_hand (flying_of m k n) v.machine) (free w i v sound stuck at) in
    let stack = frames v.stack in
    omega arith
  where
    slot : (o : Option Message) → of_slot (flying_of m k n).opened o ≡ 0
    slot None = refl
    slot (Some b) = refl

    frames : (fs : List Frame) → of_stack (flying_of m k n).framed fs ≡ 0
    frames [] = refl
    frames (f ∷ fs) = let a = frame f.rest in let b = frames fs in omega arith
      where
        frame : (r : Rest) → of_rest (flying_of m k n).framed r ≡ 0
        frame rest.None = refl
        frame (rest.Roots next end) = refl
        frame (rest.Items b next over) = refl

-- an inbox whose messages would be taken is empty
inbox-none : (w : World) (m k n place : ℕ) (ms : List Message) → Sound w → IsStuck w → Below w k → slice_get w.shared.inboxes place ≡ Some ms → queued m k n ms ≡ 0
inbox-none w m k n place ms sound stuck below at = total-none (λ (b : Message). one (census.is_word m k n b.from b.stage b.to)) ms (λ j b e. each j b e)
  where
    stages : ℕ
    stages = w.shared.shape.stages

    each : (j : ℕ) (b : Message) → slice_get ms j ≡ Some b → one (census.is_word m k n b.from b.stage b.to) ≡ 0
    each j b e = elim (word-tells m k n b.from b.stage b.to) [ inl y ↦ absurd (taken ms j b at e y.2) | inr z ↦ ap one z.0 ]
      where
        taken : (xs : List Message) (i : ℕ) (b : Message) → slice_get w.shared.inboxes place ≡ Some xs → slice_get xs i ≡ Some b → b.stage ≡ k → ⊥
        taken [] i b at e stage = none-some b e
        taken (x ∷ xs) i b at e stage =
            let s = w.shared.shape.stages in
            let some = sound.tables.shape.some_stage in
            let whole : place / s * s + place % s ≡ place = omega arith in
            let low : place % s < s = omega arith in
            let there = ap (slice_get w.shared.inboxes) whole ∙ at in
            let is = sound.messages (place / s) (place % s) i (x ∷ xs) b low there e in
            let to = is.1 in
            let here : place % s ≡ k = sym is.2 ∙ stage in
            let within = is.0.to in
            let some_stage = is.0.some_stage in
            let worker = machine-worker w (place / s) sound (omega arith) in
            let u = worker.1.0 in
            let got = worker.1.1.0 in
            let hand = free w worker.0 u sound stuck got in
            let above = below worker.0 u got in
            let t1 : nat_lt 0 k ≡ true = grind (arith, nat_tests) in
            let t2 : nat_lt k w.shared.shape.stages ≡ true = grind (arith, nat_tests) in
            let inbox : inbox_at w.shared u.machine k ≡ Some (x ∷ xs) =
            ap (λ t. cond (t && nat_lt k w.shared.shape.stages) (slice_get w.shared.inboxes (inbox_place w.shared u.machine k)) None) t1
            ∙ ap (λ t. cond t (slice_get w.shared.inboxes (inbox_place w.shared u.machine k)) None) t2
            ∙ ap (λ a. slice_get w.shared.inboxes (inbox_place w.shared a k)) worker.1.1.1
            ∙ ap (λ a. slice_get w.shared.inboxes (inbox_place w.shared (place / s) a)) (sym here) ∙ there in
            stuck (event.Pop worker.0 k) (enabled w worker.0 u (event.Pop worker.0 k) got refl (pop-own u k hand above)
            (ap (λ o. must (is_some (first_in o)) guard.Inbox None) inbox))

abbrev UnusedFrom : World → ℕ → Type 0
UnusedFrom w k = (m j n : ℕ) → IsUnit w.shared m j n → k ≤ j → used_at w.shared m j n ≡ 0

tops-below : (w : World) (k : ℕ) → Sound w → IsStuck w → UnusedFrom w (k + 1) → Below w k
tops-below w k sound stuck later i v at = go v.stack refl
  where
    go : (fs : List Frame) → v.stack ≡ fs → next_stage v.stack ≤ k
    go [] e = let a = ap next_stage e in omega arith
    go (f ∷ fs) e =
        let a = ap next_stage e in
        let b = top-blocked w i v f fs sound stuck at e in
        let some = b.some in
        elim (cases_lt k (f.stage + 1)) [ inl late ↦ absurd (let none = later v.machine (f.stage + 1) b.to b.unit (omega arith) in omega arith) | inr early ↦ omega arith ]

stage-unused : (w : World) (m k n : ℕ) → Sound w → IsStuck w → Below w k → IsUnit w.shared m k n → used_at w.shared m k n ≡ 0
stage-unused w m k n sound stuck below unit =
    let used = sound.used m k n unit in
    let flying = sound.flying m k n unit in
    let workers = total-none (count (credits_of m k n)) w.workers (λ i v at. worker-none w i m k n v sound stuck below at) in
    let hands = total-none (count (flying_of m k n)) w.workers (λ i v at. hand-none w i m k n v sound stuck at) in
    let queues = total-none (queued m k n) w.shared.inboxes (λ place ms at. inbox-none w m k n place ms sound stuck below at) in
    omega arith

unused-from : (w : World) (left k : ℕ) → Sound w → IsStuck w → w.shared.shape.stages ≤ k + left → UnusedFrom w k
unused-from w zero k sound stuck low m j n unit from = let a = unit.2 in absurd (omega arith)
unused-from w (suc left) k sound stuck low m j n unit from =
    let later = unused-from w left (k + 1) sound stuck (omega arith) in
    elim (cases_lt k j) [
      | inl late ↦ later m j n unit (omega arith)
      | inr early ↦ (let same : j ≡ k = omega arith in
          subst (λ x. used_at w.shared m x n ≡ 0) (sym same) (stage-unused w m k n sound stuck (tops-below w k sound stuck later) (subst (λ x. IsUnit w.shared m x n) same unit)))
    ]

pub unused : (w : World) (m k n : ℕ) → Sound w → IsStuck w → IsUnit w.shared m k n → used_at w.shared m k n ≡ 0
unused w m k n sound stuck unit = unused-from w w.shared.shape.stages 0 sound stuck (omega arith) m k n unit (omega arith)

-- ---- no worker has a frame or is enrolled
stack-empty : (w : World) (i : ℕ) (v : State) → Sound w → IsStuck w → slice_get w.workers i ≡ Some v → v.stack ≡ []
stack-empty w i v sound stuck at = go v.stack refl
  where
    go : (fs : List Frame) → v.stack ≡ fs → v.stack ≡ []
    go [] e = e
    go (f ∷ fs) e =
        let b = top-blocked w i v f fs sound stuck at e in
        let none = unused w v.machine (f.stage + 1) b.to sound stuck b.unit in
        let some = b.some in
        absurd (omega arith)

left : (w : World) (i : ℕ) (v : State) → Sound w → IsStuck w → slice_get w.workers i ≡ Some v → v.enrolled ≡ false
left w i v sound stuck at = is-false v.enrolled (λ e. starts e (can_claim w.shared v.machine) refl)
  where
    starts : v.enrolled ≡ true → (b : Bool) → can_claim w.shared v.machine ≡ b → ⊥
    starts e true can =
        stuck (event.Claim i) (enabled w i v (event.Claim i) at refl (start-own v (free w i v sound stuck at) (stack-empty w i v sound stuck at) e) (ap (λ t. must t guard.Roots None) can))
    starts e false can =
        stuck (event.Retire i) (enabled w i v (event.Retire i) at refl (start-own v (free w i v sound stuck at) (stack-empty w i v sound stuck at) e) (ap (λ t. must (not t) guard.Roots None) can))

none-enrolled : (w : World) (m : ℕ) → Sound w → IsStuck w → m < w.shared.shape.machines → enrolled_at w.shared m ≡ 0
none-enrolled w m sound stuck low =
    let all = sound.enrolled m low in
    let none = total-none (enrolled_of m) w.workers (λ i v at. ap (λ b. one (b && eqb v.machine m)) (left w i v sound stuck at)) in
    omega arith

word-none : (w : World) (word : Word) → Sound w → IsStuck w → IsWordOf w.shared w.shared.closed word → word_at w.shared word ≡ 0
word-none w (Enrolled m) sound stuck is = none-enrolled w m sound stuck is.1
word-none w (Used m k n) sound stuck is = unused w m k n sound stuck is.1

-- ---- so a word can be marked, or the stage closed
and-false : (b : Bool) → (b && false) ≡ false
and-false true = refl
and-false false = refl

not-all : (xs : List Bool) → list_all (λ m. m) xs ≡ false → (i : ℕ) × ((i < length xs) × (get_or xs i false ≡ false))
not-all [] e = cc
not-all (false ∷ xs) e = (0, (omega arith, refl))
not-all (true ∷ xs) e = let r = not-all xs e in (suc r.0, (let low = r.1.0 in omega arith, r.1.1))

can-mark : (s : Shared) (marks : Marks) (a b : ℕ) → is_event_word s a b ≡ true → word_at s (event_word s.closed a b) ≡ 0 → has_mark marks s.closed (event_word s.closed a b) ≡ false → can_mark s marks a b ≡ true
can-mark s marks a b is none unmarked =
    let z = eq-eqb (word_at s (event_word s.closed a b)) 0 none in
    ap (λ t. t && ((word_at s (event_word s.closed a b) == 0) && not (has_mark marks s.closed (event_word s.closed a b)))) is
    ∙ ap (λ t. t && not (has_mark marks s.closed (event_word s.closed a b))) z
    ∙ ap not unmarked

event-word-is : (s : Shared) (a b : ℕ) → s.closed < s.shape.stages → a < s.shape.machines → b < s.shape.machines → (s.closed ≡ 0 → b ≡ 0) → is_event_word s a b ≡ true
event-word-is s a b low la lb first = go (nat_eq s.closed 0) refl
  where
    go : (t : Bool) → nat_eq s.closed 0 ≡ t → is_event_word s a b ≡ true
    go true e =
        let c : nat_lt s.closed s.shape.stages ≡ true = grind (arith, nat_tests) in
        let d : nat_lt a s.shape.machines ≡ true = grind (arith, nat_tests) in
        let f : nat_eq b 0 ≡ true = eq-eqb b 0 (first (eqb-true s.closed 0 e)) in
        rw (c, d, e, f) refl
    go false e =
        let c : nat_lt s.closed s.shape.stages ≡ true = grind (arith, nat_tests) in
        let d : nat_lt a s.shape.machines ≡ true = grind (arith, nat_tests) in
        let f : nat_lt b s.shape.machines ≡ true = grind (arith, nat_tests) in
        rw (c, d, e, f) refl

-- the word of a place
word-of-place : (s : Shared) (machines p : ℕ) → machines ≡ s.shape.machines → 0 < machines → s.closed < s.shape.stages → p < words_of machines s.shape.stages s.closed →
    (a : ℕ) × ((b : ℕ) × ((is_event_word s a b ≡ true) × (place_of machines (event_word s.closed a b) ≡ p)))
word-of-place s machines p same some low within = go (nat_eq s.closed 0) refl
  where
    there : nat_lt s.closed s.shape.stages ≡ true
    there = grind (arith, nat_tests)

    go : (t : Bool) → nat_eq s.closed 0 ≡ t → (a : ℕ) × ((b : ℕ) × ((is_event_word s a b ≡ true) × (place_of machines (event_word s.closed a b) ≡ p)))
    go true e =
        let count = ap (λ t. cond t (cond (nat_eq s.closed 0) machines (machines * machines)) 0) there ∙ ap (λ t. cond t machines (machines * machines)) e in
        (p, (0, (event-word-is s p 0 low (omega arith) (omega arith) (λ _. refl), ap (λ t. place_of machines (cond t (Enrolled p) (Used p s.closed 0))) e)))
    go false e =
        let count = ap (λ t. cond t (cond (nat_eq s.closed 0) machines (machines * machines)) 0) there ∙ ap (λ t. cond t machines (machines * machines)) e in
        let a = p / machines in
        let b = p % machines in
        let whole : a * machines + b ≡ p = omega arith in
        let lb : b < machines = omega arith in
        let la : a < machines = div_below p machines machines some (omega arith) in
        let later = eqb-false s.closed 0 e in
        (a, (b, (event-word-is s a b low (omega arith) (omega arith) (λ z. absurd (later z)), ap (λ t. place_of machines (cond t (Enrolled a) (Used a s.closed b))) e ∙ whole)))

mark-enabled : (w : World) (i a b : ℕ) (v : State) → Sound w → IsStuck w → slice_get w.workers i ≡ Some v → is_event_word w.shared a b ≡ true → has_mark v.marks w.shared.closed (event_word w.shared.closed a b) ≡ false → ⊥
mark-enabled w i a b v sound stuck at is unmarked =
    let none = word-none w (event_word w.shared.closed a b) sound stuck (event-word w.shared a b is).1 in
    stuck (event.Mark i a b) (enabled w i v (event.Mark i a b) at refl (mark-own v (free w i v sound stuck at)) (ap (λ t. must t guard.Word None) (can-mark w.shared v.marks a b is none unmarked)))

closes : (w : World) (i : ℕ) (v : State) → Sound w → IsStuck w → slice_get w.workers i ≡ Some v → w.shared.closed < w.shared.shape.stages → ⊥
closes w i v sound stuck at low = by_stage (nat_eq v.marks.stage w.shared.closed) refl
  where
    machines : v.marks.machines ≡ w.shared.shape.machines
    machines = (sound.own i v at).mark_machines ∙ ap (λ x. x.machines) (sound.placed i v at).shape

    stages : v.marks.stages ≡ w.shared.shape.stages
    stages = (sound.own i v at).mark_stages ∙ ap (λ x. x.stages) (sound.placed i v at).shape

    by_marks : nat_eq v.marks.stage w.shared.closed ≡ true → (t : Bool) → list_all (λ m. m) v.marks.marked ≡ t → ⊥
    by_marks e true all =
        let same = eqb-true v.marks.stage w.shared.closed e in
        let same_stages = stages in
        let left : v.marks.stage < v.marks.stages = omega arith in
        let test : nat_lt v.marks.stage v.marks.stages ≡ true = grind (arith, nat_tests, left) in
        let ready : has_all_marks v.marks w.shared.closed ≡ true = rw (e, test, all) refl in
        stuck (event.Close i) (enabled w i v (event.Close i) at refl (mark-own v (free w i v sound stuck at)) (ap (λ t. must t guard.Marks None) ready))
    by_marks e false all =
        let same = eqb-true v.marks.stage w.shared.closed e in
        let gap = not-all v.marks.marked all in
        let low_gap = gap.1.0 in
        let some = sound.tables.shape.some_machine in
        let places = (sound.marks i v at).places ∙ ap (λ x. words_of v.marks.machines x v.marks.stage) stages ∙ ap (words_of v.marks.machines w.shared.shape.stages) same in
        let same_machines = machines in
        let word = word-of-place w.shared v.marks.machines gap.0 machines (omega arith) low (omega arith) in
        let a = word.0 in
        let b = word.1.0 in
        let here : get_or v.marks.marked (place_of v.marks.machines (event_word w.shared.closed a b)) false ≡ false = ap (λ x. get_or v.marks.marked x false) word.1.1.1 ∙ gap.1.1 in
        mark-enabled w i a b v sound stuck at word.1.1.0
        (ap (λ t. t && is_marked v.marks (event_word w.shared.closed a b)) e ∙ ap (λ t. is_word v.marks (event_word w.shared.closed a b) && t) here ∙ and-false (is_word v.marks (event_word w.shared.closed a b)))

    by_stage : (t : Bool) → nat_eq v.marks.stage w.shared.closed ≡ t → ⊥
    by_stage true e = by_marks e (list_all (λ m. m) v.marks.marked) refl
    by_stage false e =
        let some = sound.tables.shape.some_machine in
        mark-enabled w i 0 0 v sound stuck at (event-word-is w.shared 0 0 low (omega arith) (omega arith) (λ _. refl)) (ap (λ t. t && is_marked v.marks (event_word w.shared.closed 0 0)) e)

pub never_stuck : NeverStuck
never_stuck w sound stuck =
    let most = sound.tables.closed in
    let some = sound.tables.shape.some_machine in
    let worker = machine-worker w 0 sound (omega arith) in
    elim (cases_lt w.shared.closed w.shared.shape.stages) [ inl low ↦ absurd (closes w worker.0 worker.1.0 sound stuck worker.1.1.0 low) | inr all ↦ omega arith ]
