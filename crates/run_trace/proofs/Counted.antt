-- What stands outside the pools after a step, by what stood there before.
use Rattle.std.proofs.Common.{◌≡◌, ◌∙◌, refl, sym, ap, subst, arith, ℕ, zero, suc, ◌+◌, ◌<◌, ◌≤◌, Bool, true, false, not, ◌&&◌, List, [], ◌∷◌, ◌++◌, length, length-append, Option, Some, None, is_some}
use Rattle.std.specs.Prelude.{nat_lt, slice_get, slice_set}
use Rattle.adfs_base.specs.Shape.{Extents, IsShape}
use Rattle.adfs_base.specs.declared.limits.TheConstants.{BUFFER_CONTEXTS}
use Rattle.match_context.specs.Bags.{total}
use Rattle.match_context.specs.Tree.{Tree}
use Rattle.match_context.specs.declared.context.Context.{Context}
use Rattle.match_context.specs.declared.frame.Frame.{Frame}
use Rattle.match_context.specs.declared.frame.Rest.{Rest}
use Rattle.match_context.specs.declared.frame.Rest.TheVariants as rest
use Rattle.match_context.specs.declared.message.Message.{Message}
use Rattle.match_context.proofs.Totals.{total-set, total-push}
use Rattle.fabric.specs.Calls.{after_pop, can_push, chunk_end, empty_buffer, first_in, pop_answer, with_last, without_first}
use Rattle.fabric.specs.Shared.{Shared, cursor_at, inbox_at, inbox_place}
use Rattle.dfs_worker.specs.declared.event.Event.{Event}
use Rattle.dfs_worker.specs.declared.event.Event.TheVariants.{Claim, Retire, Advance, Descend, Append, Charge, Fetch, Post, Push, Pop, Pick, Restore, Discharge, Mark, Close}
use Rattle.dfs_worker.specs.declared.guard.Guard.TheVariants as guard
use Rattle.dfs_worker.specs.declared.hand.Hand.{Hand}
use Rattle.dfs_worker.specs.declared.hand.Hand.TheVariants.{Free, Charged, Posted, Popped, Emptied}
use Rattle.dfs_worker.specs.Own.{freed, popped}
use Rattle.dfs_worker.specs.Sound.{IsStack, StandsOn}
use Rattle.dfs_worker.specs.State.{State, next_stage, waiting}
use Rattle.dfs_worker.proofs.Facts.{must-none, discharge-facts, pick-facts, pop-facts, post-facts, push-facts, restore-facts}
use Rattle.world_core.specs.declared.gauge.Gauge.{Gauge}
use Rattle.world_core.specs.Gauge.{at_worker, gauge_of, in_hand, in_inboxes, in_worker, its_contexts, one_buffer}
use Rattle.world_core.specs.Sound.{Sound}
use Rattle.world_core.specs.Step.{Step, charged_for, discharged_from, own_part, picked_from, popped_as, posted_test, pushed_from, restored_from, restored_rest, shared_part, worker_of}
use Rattle.world_core.specs.World.{World}
use Rattle.world_core.proofs.Bounds.{bounded, small}
use Rattle.world_core.proofs.Inboxes.{first-message, space-in, tested-posted}
use Rattle.world_core.proofs.Parts.{Enabled, enabled-facts, machine-in}
use Rattle.world_core.proofs.Steps.{happens-is}
use Rattle.run_trace.specs.declared.gauging.Top.{Top}
use Rattle.run_trace.specs.Gauging.{Fitting, held_in, moved, one_if, put_out, so_many, taken_back, top_at, top_in, top_of}
use Rattle.run_trace.proofs.Changes.{advanced-at, advanced-in, appends, charged-at, charged-in, claimed-at, claimed-in, descended-at, descended-in, fetches, freed-in, picked-at, picked-in, popped-in, posted-at, posted-in, restored-at, restored-held, restored-in}
use Rattle.run_trace.proofs.Inboxes.{inboxes-change, inboxes-same}

-- a worker and what is shared change, and so much comes out of the pools and goes back
pub record Counts (w : World) (v v' : State) (h : Shared) (more less : Gauge) : Type 0 where
  pub buffers : in_worker one_buffer v' + in_inboxes one_buffer h + less.buffers ≡ in_worker one_buffer v + in_inboxes one_buffer w.shared + more.buffers
  pub contexts : in_worker its_contexts v' + at_worker v' + in_inboxes its_contexts h + less.contexts
      ≡ in_worker its_contexts v + at_worker v + in_inboxes its_contexts w.shared + more.contexts

-- ---- where nothing comes out and nothing goes back
-- the worker's part is the same, and the inboxes are
same-counts : (w : World) (v v' : State) (h : Shared) → ((number : Message → ℕ) → in_worker number v' ≡ in_worker number v) → at_worker v' ≡ at_worker v →
    h.inboxes ≡ w.shared.inboxes → h.shape ≡ w.shared.shape → Counts w v v' h (so_many 0 0) (so_many 0 0)
same-counts w v v' h own stands inboxes shape =
    let b = own one_buffer in
    let c = own its_contexts in
    let bs = inboxes-same one_buffer w.shared h inboxes shape in
    let cs = inboxes-same its_contexts w.shared h inboxes shape in
    record { buffers = omega arith; contexts = omega arith }

-- a message goes from the hand into an inbox, or out of it into the hand
inbox-counts : (w : World) (v v' : State) (a j : ℕ) (old new : List Message) → a < w.shared.shape.machines → inbox_at w.shared a j ≡ Some old →
    ((number : Message → ℕ) → in_worker number v' + total number new ≡ in_worker number v + total number old) → at_worker v' ≡ at_worker v →
    Counts w v v' (record w.shared { inboxes = slice_set w.shared.inboxes (inbox_place w.shared a j) new }) (so_many 0 0) (so_many 0 0)
inbox-counts w v v' a j old new low there own stands =
    let b = own one_buffer in
    let c = own its_contexts in
    let bs = inboxes-change one_buffer w.shared a j old new low there in
    let cs = inboxes-change its_contexts w.shared a j old new low there in
    record { buffers = omega arith; contexts = omega arith }

-- ---- what is shared keeps its inboxes
charge-inboxes : (o : Option (ℕ × ℕ)) (machine : ℕ) (s : Shared) → ((charged_for o machine s).inboxes ≡ s.inboxes) × ((charged_for o machine s).shape ≡ s.shape)
charge-inboxes None machine s = (refl, refl)
charge-inboxes (Some child) machine s = (refl, refl)

pick-inboxes : (hand : Hand) (s : Shared) → ((picked_from hand s).inboxes ≡ s.inboxes) × ((picked_from hand s).shape ≡ s.shape)
pick-inboxes Free s = (refl, refl)
pick-inboxes (Charged stage to) s = (refl, refl)
pick-inboxes (Posted message) s = (refl, refl)
pick-inboxes (Popped message) s = (refl, refl)
pick-inboxes (Emptied from stage) s = (refl, refl)

rest-inboxes : (r : Rest) (s : Shared) → ((restored_rest r s).inboxes ≡ s.inboxes) × ((restored_rest r s).shape ≡ s.shape)
rest-inboxes rest.None s = (refl, refl)
rest-inboxes (rest.Roots next end) s = (refl, refl)
rest-inboxes (rest.Items message next over) s = (refl, refl)

restore-inboxes : (frames : List Frame) (s : Shared) → ((restored_from frames s).inboxes ≡ s.inboxes) × ((restored_from frames s).shape ≡ s.shape)
restore-inboxes [] s = (refl, refl)
restore-inboxes (frame ∷ frames) s = rest-inboxes frame.rest s

discharge-inboxes : (hand : Hand) (machine : ℕ) (s : Shared) → ((discharged_from hand machine s).inboxes ≡ s.inboxes) × ((discharged_from hand machine s).shape ≡ s.shape)
discharge-inboxes Free machine s = (refl, refl)
discharge-inboxes (Charged stage to) machine s = (refl, refl)
discharge-inboxes (Posted message) machine s = (refl, refl)
discharge-inboxes (Popped message) machine s = (refl, refl)
discharge-inboxes (Emptied from stage) machine s = (refl, refl)

-- ---- push and pop
push-counts : (w : World) (i : ℕ) (v : State) → Sound w → Enabled w (Push i) v → Counts w v (freed v) (pushed_from v.hand w.shared) (so_many 0 0) (so_many 0 0)
push-counts w i v sound on =
    let f = push-facts v on.own in
    let b = f.0 in
    let can = must-none (posted_test (λ message. can_push w.shared message.to message.stage) v.hand) guard.Inbox None on.shared in
    let space = tested-posted (λ message. can_push w.shared message.to message.stage) v.hand b f.1 can.0 in
    let inbox = space-in w.shared.shape (inbox_at w.shared b.to b.stage) space in
    let held = rw f.1 at (sound.own i v on.at).hand in
    let shape = (sound.placed i v on.at).shape in
    let low : b.to < w.shared.shape.machines = subst (λ x. b.to < x.machines) shape held.1.to in
    let here : pushed_from v.hand w.shared ≡ record w.shared { inboxes = slice_set w.shared.inboxes (inbox_place w.shared b.to b.stage) (inbox.0 ++ b ∷ []) } =
    ap (λ hand. pushed_from hand w.shared) f.1 ∙ ap (λ o. record w.shared { inboxes = with_last b (inbox_place w.shared b.to b.stage) o w.shared.inboxes }) inbox.1 in
    subst (λ h. Counts w v (freed v) h (so_many 0 0) (so_many 0 0)) (sym here)
    (inbox-counts w v (freed v) b.to b.stage inbox.0 (inbox.0 ++ b ∷ []) low inbox.1
    (λ number.
    let gone = freed-in number v in
    let hand = ap (in_hand number) f.1 in
    let more = total-push number inbox.0 b in
    omega arith)
    refl)

pop-counts : (w : World) (i k : ℕ) (v : State) → Sound w → Enabled w (Pop i k) v →
    Counts w v (popped_as (pop_answer w.shared v.machine k) v) (after_pop w.shared v.machine k) (so_many 0 0) (so_many 0 0)
pop-counts w i k v sound on =
    let can = must-none (is_some (pop_answer w.shared v.machine k)) guard.Inbox None on.shared in
    let f = first-message (inbox_at w.shared v.machine k) can.0 in
    let b = f.0 in
    let bs = f.1.0 in
    let free = (pop-facts v k on.own).0 in
    let mine : popped_as (pop_answer w.shared v.machine k) v ≡ popped b v = ap (λ o. popped_as (first_in o) v) f.1.1 in
    let here : after_pop w.shared v.machine k ≡ record w.shared { inboxes = slice_set w.shared.inboxes (inbox_place w.shared v.machine k) bs } =
    ap (λ o. record w.shared { inboxes = without_first (inbox_place w.shared v.machine k) o w.shared.inboxes }) f.1.1 in
    subst (λ u. Counts w v u (after_pop w.shared v.machine k) (so_many 0 0) (so_many 0 0)) (sym mine)
    (subst (λ h. Counts w v (popped b v) h (so_many 0 0) (so_many 0 0)) (sym here)
    (inbox-counts w v (popped b v) v.machine k (b ∷ bs) bs (machine-in w i v sound on.at) f.1.1
    (λ number. let more = popped-in number v b free in omega arith)
    refl))

-- ---- each event
pub event-counts : (tree : Tree) (w : World) (e : Event) (v : State) → Sound w → Enabled w e v →
    Counts w v (own_part tree e w.shared v) (shared_part e v w.shared)
    (put_out e (top_in v.stack) (top_in (own_part tree e w.shared v).stack)) (taken_back e (top_in v.stack) (top_in (own_part tree e w.shared v).stack))
event-counts tree w (Claim i) v sound on =
    let first = cursor_at w.shared v.machine in
    let end = chunk_end w.shared v.machine in
    let b = claimed-in one_buffer tree v first end in
    let c = claimed-in its_contexts tree v first end in
    let a = claimed-at tree v first end in
    record { buffers = omega arith; contexts = omega arith }
event-counts tree w (Retire i) v sound on = same-counts w v _ _ (λ number. refl) refl refl refl
event-counts tree w (Advance i) v sound on =
    let b = advanced-in one_buffer tree v in
    let c = advanced-in its_contexts tree v in
    let a = (advanced-at tree v on.own).count in
    record { buffers = omega arith; contexts = omega arith }
event-counts tree w (Descend i) v sound on = same-counts w v _ _ (λ number. descended-in number v on.own) (descended-at v on.own) refl refl
event-counts tree w (Append i) v sound on =
    let f = appends v (sound.own i v on.at) on.own in
    let b = f.counts one_buffer in
    let c = f.counts its_contexts in
    let a = f.stands in
    let size = length-append f.message.items.items (f.context ∷ []) in
    let one : length (f.context ∷ []) ≡ 1 = refl in
    record { buffers = omega arith; contexts = omega arith }
event-counts tree w (Charge i) v sound on =
    let keeps = charge-inboxes (waiting v.stack) v.machine w.shared in
    same-counts w v _ _ (λ number. charged-in number v on.own) (charged-at v on.own) keeps.0 keeps.1
event-counts tree w (Fetch i) v sound on =
    let f = fetches (empty_buffer v.machine w.shared.shape.buffer) v (sound.own i v on.at) on.own in
    let b = f.counts one_buffer in
    let c = f.counts its_contexts in
    let a = f.stands in
    record { buffers = omega arith; contexts = omega arith }
event-counts tree w (Post i k n) v sound on =
    let f = post-facts v k n on.own in
    same-counts w v _ _ (λ number. posted-in number v k n f.0 (sound.own i v on.at) f.1.0 f.1.1) (posted-at v k n f.0 f.1.1) refl refl
event-counts tree w (Push i) v sound on = push-counts w i v sound on
event-counts tree w (Pop i k) v sound on = pop-counts w i k v sound on
event-counts tree w (Pick i) v sound on =
    let f = pick-facts v on.own in
    let worker = sound.own i v on.at in
    let keeps = pick-inboxes v.hand w.shared in
    let b = picked-in one_buffer v f.0 worker f.1 in
    let c = picked-in its_contexts v f.0 worker f.1 in
    let a = picked-at v f.0 worker f.1 in
    let bs = inboxes-same one_buffer w.shared (picked_from v.hand w.shared) keeps.0 keeps.1 in
    let cs = inboxes-same its_contexts w.shared (picked_from v.hand w.shared) keeps.0 keeps.1 in
    record { buffers = omega arith; contexts = omega arith }
event-counts tree w (Restore i) v sound on =
    let f = restore-facts v on.own in
    let ends = f.1.1.1.1 in
    let worker = sound.own i v on.at in
    let keeps = restore-inboxes v.stack w.shared in
    let b = restored-in one_buffer v f.0 f.1.0 f.1.1.0 f.1.1.1.0 ends in
    let c = restored-in its_contexts v f.0 f.1.0 f.1.1.0 f.1.1.1.0 ends in
    let a = restored-at v f.0 f.1.0 f.1.1.0 f.1.1.1.0 worker ends in
    let held = restored-held v f.0 f.1.0 f.1.1.0 f.1.1.1.0 ends in
    let bs = inboxes-same one_buffer w.shared (restored_from v.stack w.shared) keeps.0 keeps.1 in
    let cs = inboxes-same its_contexts w.shared (restored_from v.stack w.shared) keeps.0 keeps.1 in
    record { buffers = omega arith; contexts = omega arith }
event-counts tree w (Discharge i) v sound on =
    let f = discharge-facts v on.own in
    let keeps = discharge-inboxes v.hand v.machine w.shared in
    same-counts w v _ _ (λ number. let gone = freed-in number v in let hand = ap (in_hand number) f.1.1 in omega arith) refl keeps.0 keeps.1
event-counts tree w (Mark i a b) v sound on = same-counts w v _ _ (λ number. refl) refl refl refl
event-counts tree w (Close i) v sound on = same-counts w v _ _ (λ number. refl) refl refl refl

-- ---- the whole world
world-counts : (w : World) (i : ℕ) (v v' : State) (h : Shared) (more less : Gauge) → slice_get w.workers i ≡ Some v → Counts w v v' h more less →
    let new = gauge_of (record { workers = slice_set w.workers i v'; shared = h }) in
    (new.buffers + less.buffers ≡ (gauge_of w).buffers + more.buffers) × (new.contexts + less.contexts ≡ (gauge_of w).contexts + more.contexts)
world-counts w i v v' h more less at counts =
    let b = total-set (in_worker one_buffer) w.workers i v v' at in
    let c = total-set (in_worker its_contexts) w.workers i v v' at in
    let a = total-set at_worker w.workers i v v' at in
    let buffers = counts.buffers in
    let contexts = counts.contexts in
    (omega arith, omega arith)

same-gauge : (a b : Gauge) → a.buffers ≡ b.buffers → a.contexts ≡ b.contexts → a ≡ b
same-gauge a b buffers contexts = ap (λ n. so_many n a.contexts) buffers ∙ ap (so_many b.buffers) contexts

get-set : {A : Type 0} (xs : List A) (i : ℕ) (old x : A) → slice_get xs i ≡ Some old → slice_get (slice_set xs i x) i ≡ Some x
get-set [] i old x at = cc
get-set (y ∷ ys) zero old x at = refl
get-set (y ∷ ys) (suc i) old x at = get-set ys i old x at

-- What a step puts out and takes back, and what stands there then.
pub record StepCounts (w w' : World) (e : Event) : Type 0 where
  pub buffers : (gauge_of w').buffers + (taken_back e (top_of w e) (top_of w' e)).buffers ≡ (gauge_of w).buffers + (put_out e (top_of w e) (top_of w' e)).buffers
  pub contexts : (gauge_of w').contexts + (taken_back e (top_of w e) (top_of w' e)).contexts ≡ (gauge_of w).contexts + (put_out e (top_of w e) (top_of w' e)).contexts

pub step-counts : (tree : Tree) (w w' : World) (e : Event) → Sound w → Step tree w e w' → StepCounts w w' e
step-counts tree w w' e sound step =
    let x = enabled-facts w e step.enabled in
    let v = x.0 in
    let v' = own_part tree e w.shared v in
    let h = shared_part e v w.shared in
    let new : World = record { workers = slice_set w.workers (worker_of e) v'; shared = h } in
    let is : w' ≡ new = step.change ∙ happens-is tree w e v x.1.at in
    let before : top_of w e ≡ top_in v.stack = ap top_at x.1.at in
    let after : top_of new e ≡ top_in v'.stack = ap top_at (get-set w.workers (worker_of e) v v' x.1.at) in
    let counts = world-counts w (worker_of e) v v' h _ _ x.1.at (event-counts tree w e v sound x.1) in
    subst (λ u. StepCounts w u e) (sym is)
    (record {
      buffers = rw (before, after) counts.0;
      contexts = rw (before, after) counts.1;
    })

-- ---- the numbers fit
put-few : (e : Event) (before after : Top) → ((put_out e before after).buffers ≤ 1) × ((put_out e before after).contexts ≤ 1)
put-few (Claim w) before after = (omega arith, omega arith)
put-few (Retire w) before after = (omega arith, omega arith)
put-few (Advance w) before after = (omega arith, few (not (nat_lt after.frames before.frames) && after.waits))
  where
    few : (b : Bool) → one_if b ≤ 1
    few true = omega arith
    few false = omega arith
put-few (Descend w) before after = (omega arith, omega arith)
put-few (Append w) before after = (omega arith, omega arith)
put-few (Charge w) before after = (omega arith, omega arith)
put-few (Fetch w) before after = (omega arith, omega arith)
put-few (Post w stage to) before after = (omega arith, omega arith)
put-few (Push w) before after = (omega arith, omega arith)
put-few (Pop w stage) before after = (omega arith, omega arith)
put-few (Pick w) before after = (omega arith, omega arith)
put-few (Restore w) before after = (omega arith, omega arith)
put-few (Discharge w) before after = (omega arith, omega arith)
put-few (Mark w a b) before after = (omega arith, omega arith)
put-few (Close w) before after = (omega arith, omega arith)

-- what a message frame's buffer holds is within its size
held-small : (shape : Extents) (enrolled : Bool) (machine stage from : ℕ) (frames : List Frame) (wait : Option (Context × ℕ)) (r : Rest) → IsShape shape →
    StandsOn shape enrolled machine stage from frames wait r → held_in r ≤ BUFFER_CONTEXTS
held-small shape enrolled machine stage from frames wait rest.None is stands = omega arith
held-small shape enrolled machine stage from frames wait (rest.Roots next end) is stands = omega arith
held-small shape enrolled machine stage from frames wait (rest.Items message next over) is stands =
    let within = stands.packet.within in
    let most = is.buffer in
    omega arith

top-small : (shape : Extents) (enrolled : Bool) (machine : ℕ) (frames : List Frame) → IsShape shape → IsStack shape enrolled machine frames → (top_in frames).held ≤ BUFFER_CONTEXTS
top-small shape enrolled machine [] is stack = omega arith
top-small shape enrolled machine (frame ∷ frames) is stack =
    held-small shape enrolled machine frame.stage (next_stage frames) frames frame.wait frame.rest is stack.0.stands

pub held-fits : (w : World) (e : Event) → Sound w → (top_of w e).held < 9223372036854775808
held-fits w e sound = go (slice_get w.workers (worker_of e)) refl
  where
    go : (o : Option State) → slice_get w.workers (worker_of e) ≡ o → (top_at o).held < 9223372036854775808
    go None at = omega arith
    go (Some v) at =
        let worker = sound.own (worker_of e) v at in
        let small = top-small v.shape v.enrolled v.machine v.stack worker.shape worker.stack in
        omega arith

pub step-fitting : (w w' : World) (e : Event) (gauge : Gauge) → Sound w → StepCounts w w' e → gauge ≡ gauge_of w →
    Fitting gauge (put_out e (top_of w e) (top_of w' e)) (taken_back e (top_of w e) (top_of w' e))
step-fitting w w' e gauge sound counts is =
    let within = bounded w sound in
    let low = small w.shared.shape sound.tables.shape in
    let few = put-few e (top_of w e) (top_of w' e) in
    let b = counts.buffers in
    let c = counts.contexts in
    let bs = ap (λ (g : Gauge). g.buffers) is in
    let cs = ap (λ (g : Gauge). g.contexts) is in
    let most_b = within.buffers in
    let most_c = within.contexts in
    record { sum_of_buffers = omega arith; fewer_buffers = omega arith; sum_of_contexts = omega arith; fewer_contexts = omega arith }

pub step-gauge : (w w' : World) (e : Event) (gauge : Gauge) → StepCounts w w' e → gauge ≡ gauge_of w →
    moved gauge (put_out e (top_of w e) (top_of w' e)) (taken_back e (top_of w e) (top_of w' e)) ≡ gauge_of w'
step-gauge w w' e gauge counts is =
    let b = counts.buffers in
    let c = counts.contexts in
    let bs = ap (λ (g : Gauge). g.buffers) is in
    let cs = ap (λ (g : Gauge). g.contexts) is in
    same-gauge (moved gauge (put_out e (top_of w e) (top_of w' e)) (taken_back e (top_of w e) (top_of w' e))) (gauge_of w') (omega arith) (omega arith)
