-- The same of the events by which buffers and their credits go round.
use Rattle.std.proofs.Common.{◌≡◌, ◌≢◌, ◌⊎◌, inl, inr, ℕ, ◌+◌, ◌-◌, ◌*◌, ◌<◌, ◌≤◌, Bool, true, false, not, ◌&&◌, cond, eqb, ltb, List, [], ◌∷◌, ◌++◌, length, get_or, Option, Some, None, is_some, refl, sym, ap, subst, ◌∙◌, arith}
use Rattle.std.specs.Prelude.{slice_get, slice_set, slice_index, nat_lt}
use Rattle.std.proofs.lemmas.Bool.{eqb-true}
use Rattle.std.proofs.lemmas.Bool.Decides.{nat_tests}
use Rattle.std.proofs.lemmas.List.{length-set}
use Rattle.std.proofs.lemmas.Nat.{same_from_place, mul-add-lt}
use Rattle.std.proofs.lemmas.Option.{slice_get_within}
use Rattle.adfs_base.specs.Shape.{Extents, limit_of, pool_of}
use Rattle.match_context.specs.Bags.{total}
use Rattle.match_context.specs.Batch.{Batch}
use Rattle.match_context.specs.Tree.{Tree}
use Rattle.match_context.specs.declared.context.Context.{Context}
use Rattle.match_context.specs.declared.frame.Frame.{Frame}
use Rattle.match_context.specs.declared.frame.Rest.{Rest}
use Rattle.match_context.specs.declared.frame.Rest.TheVariants as rest
use Rattle.match_context.specs.declared.message.Message.{Message}
use Rattle.match_context.proofs.Totals.{total-set, total-push, get-of_set, get-of_push}
use Rattle.fabric.specs.Calls.{IsMessageOf, can_charge, after_charge, after_discharge, can_fetch, empty_buffer, after_fetch, after_restore, after_post, can_pick, after_pick, has_space, can_push, after_push, with_last, first_of, rest_of, first_in, pop_answer, without_first, after_pop}
use Rattle.fabric.specs.Shared.{Shared, IsUnit, IsMessageStage, place, used_at, flying_at, cursor_at, pool_at, inbox_place, inbox_at}
use Rattle.dfs_worker.specs.declared.event.Event.{Event}
use Rattle.dfs_worker.specs.declared.event.Event.TheVariants.{Charge, Fetch, Post, Push, Pop, Pick, Restore, Discharge}
use Rattle.dfs_worker.specs.declared.guard.Guard.TheVariants as guard
use Rattle.dfs_worker.specs.declared.hand.Hand.{Hand}
use Rattle.dfs_worker.specs.declared.hand.Hand.TheVariants.{Free, Charged, Posted, Popped, Emptied}
use Rattle.dfs_worker.specs.Census.{Census, count, credits_of, flying_of, buffers_of, one, is_word, of_message, of_hand}
use Rattle.dfs_worker.specs.Guards.{own_guard}
use Rattle.dfs_worker.specs.Own.{charged, fetched, posted, freed, popped, picked, restored}
use Rattle.dfs_worker.specs.Slots.{is_open, open_at, slot_of}
use Rattle.dfs_worker.specs.Sound.{IsWorker, IsMessageFrame, WithinRoots}
use Rattle.dfs_worker.specs.State.{State, waiting}
use Rattle.dfs_worker.proofs.Counts.{charged-count, fetched-count, posted-count, freed-count, popped-count, picked-count, restored-count}
use Rattle.dfs_worker.proofs.Facts.{must-none, Waits, Ends, child-facts, waiting-is, charged-facts, charges-facts, post-facts, push-facts, pop-facts, pick-facts, restore-facts, discharge-facts}
use Rattle.dfs_worker.proofs.Keeps.{IsEmpty, charged-keeps, fetched-keeps, posted-keeps, freed-keeps, popped-keeps, picked-keeps, restored-keeps}
use Rattle.dfs_worker.proofs.Roots.{charged-roots, fetched-roots, posted-roots, picked-roots, restored-roots}
use Rattle.world_core.specs.Sound.{Sound, AreMessages, queued, homes_in}
use Rattle.world_core.specs.Step.{shared_guard, own_part, shared_part, can_charge_for, charged_for, posted_test, popped_test, popped_as, pushed_from, picked_from, restored_from, restored_rest, discharged_from}
use Rattle.world_core.specs.World.{World}
use Rattle.world_core.proofs.Bodies.{open-for, word-self}
use Rattle.world_core.proofs.Happens.{After, StaysPut, put-self, put-charged, put-fetched, put-posted, put-picked, put-restored, keeps-of}
use Rattle.world_core.proofs.Moves.{Moves}
use Rattle.world_core.proofs.Past.{child-later}
use Rattle.world_core.proofs.Moving.{Keeps, words-moves, stores-moves}
use Rattle.world_core.proofs.Parts.{machine-in, sound-part}
use Rattle.world_core.proofs.Words.{word-tells, word-raised, word-lowered, number-raised, number-lowered}

pub shape-of : (w : World) (i : ℕ) (v : State) → Sound w → slice_get w.workers i ≡ Some v → v.shape ≡ w.shared.shape
shape-of w i v sound at = (sound.placed i v at).shape

-- a message of a worker's shape names credits of the world
pub message-unit : (w : World) (x : Extents) (b : Message) → x ≡ w.shared.shape → IsMessageOf x b → IsUnit w.shared b.from b.stage b.to
message-unit w x b same is =
    let m = ap (λ y. y.machines) same in
    let k = ap (λ y. y.stages) same in
    let from = is.from in let some = is.some_stage in let stage = is.stage in let to = is.to in
    (omega arith, omega arith, omega arith, omega arith)

-- ---- charge
-- the child for which a credit is taken
pub child-unit : (w : World) (i : ℕ) (v : State) → Sound w → slice_get w.workers i ≡ Some v → own_guard (Charge i) v ≡ None →
    (k : ℕ) × ((n : ℕ) × ((waiting v.stack ≡ Some (k, n)) × IsUnit w.shared v.machine k n))
child-unit w i v sound at guards =
    let f = child-facts v (λ stage to. not (is_open v.slots stage to)) guard.Open guards in
    let frame = f.0 in
    let waits = f.1.1.1.0 in
    let worker = sound.own i v at in
    let s = rw waits.stack at worker.stack in
    let wait = rw waits.wait at s.0.wait in
    let low = wait.0 in
    let near = wait.1 in
    let m = ap (λ y. y.machines) (shape-of w i v sound at) in
    let k = ap (λ y. y.stages) (shape-of w i v sound at) in
    let here = machine-in w i v sound at in
    (frame.stage + 1, (f.1.1.0.1, (waiting-is v frame f.1.0 f.1.1.0 waits, (here, omega arith, omega arith, omega arith))))

limit-raised : (s : Shared) (a j q m k n : ℕ) → used_at s a j q < limit_of s.shape a q → used_at s m k n ≤ limit_of s.shape m n →
    used_at s m k n + one (is_word m k n a j q) ≤ limit_of s.shape m n
limit-raised s a j q m k n low at_most = go (word-tells m k n a j q)
  where
    go : ((is_word m k n a j q ≡ true) × (a ≡ m) × (j ≡ k) × (q ≡ n)) ⊎ ((is_word m k n a j q ≡ false) × (a ≡ m → j ≡ k → q ≡ n → ⊥)) → used_at s m k n + one (is_word m k n a j q) ≤ limit_of s.shape m n
    go (inl y) =
        let here : used_at s m k n < limit_of s.shape m n =
        subst (λ x. used_at s m k x < limit_of s.shape m x) y.3 (subst (λ x. used_at s m x q < limit_of s.shape m q) y.2 (subst (λ x. used_at s x j q < limit_of s.shape x q) y.1 low)) in
        rw y.0 (omega arith)
    go (inr z) = rw z.0 (omega arith)

-- a word of an earlier stage is another one
other-word : (m j q k a n closed : ℕ) → j ≤ closed → closed < k → one (is_word m j q a k n) ≡ 0
other-word m j q k a n closed early later = elim (word-tells m j q a k n) [ inl y ↦ absurd (let e = y.2 in omega arith) | inr z ↦ rw z.0 refl ]

charge-for : (w : World) (i k n : ℕ) (v : State) → Sound w → slice_get w.workers i ≡ Some v → own_guard (Charge i) v ≡ None → waiting v.stack ≡ Some (k, n) → IsUnit w.shared v.machine k n →
    can_charge w.shared v.machine k n ≡ true → w.shared.closed < k → Moves w v (charged v) (after_charge w.shared v.machine k n)
charge-for w i k n v sound at guards waits unit can later =
    let more : (m j q : ℕ) → IsUnit w.shared m j q → used_at (after_charge w.shared v.machine k n) m j q ≡ used_at w.shared m j q + one (is_word m j q v.machine k n) =
    λ m j q here. word-raised w.shared w.shared.used v.machine k n m j q sound.tables.used unit here in
    let test : nat_lt (used_at w.shared v.machine k n) (limit_of w.shared.shape v.machine n) ≡ true = can in
    let low : used_at w.shared v.machine k n < limit_of w.shared.shape v.machine n = grind (arith, nat_tests, test) in
    words-moves w i v (charged v) (slice_set w.shared.used (place w.shared v.machine k n) (used_at w.shared v.machine k n + 1)) w.shared.flying sound at
    (keeps-of w i v sound at (charged v) (put-charged v (waiting v.stack)) (charged-keeps v (sound.own i v at) guards))
    (length-set w.shared.used (place w.shared v.machine k n) (used_at w.shared v.machine k n + 1)) refl
    (λ m j q here. let a = more m j q here in let b = charged-count (credits_of m j q) v (k, n) guards waits in omega arith)
    (λ m j q here. let b = charged-count (flying_of m j q) v (k, n) guards waits in omega arith)
    (λ m j q here. let a = more m j q here in let b = limit-raised w.shared v.machine k n m j q low (sound.limits m j q here) in omega arith)
    (λ m j q here early. let a = more m j q here in let b = other-word m j q k v.machine n w.shared.closed early later in omega arith)
    (λ home. let b = charged-count (buffers_of home) v (k, n) guards waits in omega arith)
    (charged-roots (cursor_at w.shared v.machine) v (sound.claimed i v at))

pub charge-happens : (tree : Tree) (w : World) (i : ℕ) (v : State) → Sound w → slice_get w.workers i ≡ Some v → own_guard (Charge i) v ≡ None → shared_guard (Charge i) v w.shared ≡ None → After tree w (Charge i) v
charge-happens tree w i v sound at guards shared =
    let can = must-none (can_charge_for w.shared v.machine (waiting v.stack)) guard.Limit None shared in
    let f = child-unit w i v sound at guards in
    let test : can_charge w.shared v.machine f.0 f.1.0 ≡ true = sym (ap (can_charge_for w.shared v.machine) f.1.1.0) ∙ can.0 in
    subst (λ h. Moves w v (charged v) h) (sym (ap (λ o. charged_for o v.machine w.shared) f.1.1.0))
    (charge-for w i f.0 f.1.0 v sound at guards f.1.1.0 f.1.1.1 test (child-later w i v f.0 f.1.0 sound at f.1.1.0))

-- ---- fetch
pub fetch-happens : (tree : Tree) (w : World) (i : ℕ) (v : State) → Sound w → slice_get w.workers i ≡ Some v → own_guard (Fetch i) v ≡ None → shared_guard (Fetch i) v w.shared ≡ None → After tree w (Fetch i) v
fetch-happens tree w i v sound at guards shared =
    let can = must-none (can_fetch w.shared v.machine) guard.Pool None shared in
    let test : nat_lt 0 (pool_at w.shared v.machine) ≡ true = can.0 in
    let some : 0 < pool_at w.shared v.machine = grind (arith, nat_tests, test) in
    let batch = empty_buffer v.machine w.shared.shape.buffer in
    let worker = sound.own i v at in
    let f = charged-facts v guards in
    let is : IsEmpty v batch = record { home = refl; size = ap (λ x. x.buffer) (sym (shape-of w i v sound at)); none = refl } in
    let low = machine-in w i v sound at in
    let size = sound.tables.pools in
    stores-moves w i v (fetched batch v) (slice_set w.shared.pools v.machine (pool_at w.shared v.machine - 1)) w.shared.inboxes sound at
    (keeps-of w i v sound at (fetched batch v) (put-fetched v batch v.hand) (fetched-keeps v batch worker guards is))
    (length-set w.shared.pools v.machine (pool_at w.shared v.machine - 1)) refl
    (λ m k n. let b = fetched-count (credits_of m k n) v batch f.0 f.1.0 worker f.1.1 in omega arith)
    (λ m k n here. let b = fetched-count (flying_of m k n) v batch f.0 f.1.0 worker f.1.1 in omega arith)
    (λ home here. let a = number-lowered w.shared.pools v.machine home (omega arith) some in let b = fetched-count (buffers_of home) v batch f.0 f.1.0 worker f.1.1 in omega arith)
    sound.messages (fetched-roots (cursor_at w.shared v.machine) v batch (sound.claimed i v at))

-- ---- post
post-for : (w : World) (i k n : ℕ) (v : State) (b : Message) → Sound w → slice_get w.workers i ≡ Some v → own_guard (Post i k n) v ≡ None → v.hand ≡ Free → open_at v.slots k n ≡ Some b →
    b.from ≡ v.machine → b.stage ≡ k → b.to ≡ n → IsUnit w.shared v.machine k n → Moves w v (posted k n v) (after_post w.shared v.machine k n)
post-for w i k n v b sound at guards hand found from stage to unit =
    let worker = sound.own i v at in
    let same : (m j q : ℕ) → one (is_word m j q b.from b.stage b.to) ≡ one (is_word m j q v.machine k n) =
    λ m j q. ap (λ x. one (is_word m j q x b.stage b.to)) from ∙ ap (λ x. one (is_word m j q v.machine x b.to)) stage ∙ ap (λ x. one (is_word m j q v.machine k x)) to in
    let more : (m j q : ℕ) → IsUnit w.shared m j q → flying_at (after_post w.shared v.machine k n) m j q ≡ flying_at w.shared m j q + one (is_word m j q v.machine k n) =
    λ m j q here. word-raised w.shared w.shared.flying v.machine k n m j q sound.tables.flying unit here in
    words-moves w i v (posted k n v) w.shared.used (slice_set w.shared.flying (place w.shared v.machine k n) (flying_at w.shared v.machine k n + 1)) sound at
    (keeps-of w i v sound at (posted k n v) (put-posted v k n (open_at v.slots k n)) (posted-keeps v k n worker guards))
    refl (length-set w.shared.flying (place w.shared v.machine k n) (flying_at w.shared v.machine k n + 1))
    (λ m j q here. let a = more m j q here in let c = posted-count (credits_of m j q) v k n b worker hand found in let d = same m j q in omega arith)
    (λ m j q here. let a = more m j q here in let c = posted-count (flying_of m j q) v k n b worker hand found in let d = same m j q in omega arith)
    sound.limits
    (λ m j q here early. omega arith)
    (λ home. let c = posted-count (buffers_of home) v k n b worker hand found in omega arith)
    (posted-roots (cursor_at w.shared v.machine) v k n (sound.claimed i v at))

pub post-happens : (tree : Tree) (w : World) (i k n : ℕ) (v : State) → Sound w → slice_get w.workers i ≡ Some v → own_guard (Post i k n) v ≡ None → After tree w (Post i k n) v
post-happens tree w i k n v sound at guards =
    let f = post-facts v k n guards in
    let there = open-for w.shared v k n f.0 (sound.own i v at) f.1.1 in
    let unit = message-unit w v.shape f.0 (shape-of w i v sound at) there.is.whole in
    let at_home = subst (λ x. IsUnit w.shared x f.0.stage f.0.to) there.is.own unit in
    let at_stage = subst (λ x. IsUnit w.shared v.machine x f.0.to) there.same_stage at_home in
    let at_target = subst (λ x. IsUnit w.shared v.machine k x) there.same_to at_stage in
    post-for w i k n v f.0 sound at guards f.1.0 f.1.1 there.is.own there.same_stage there.same_to at_target

-- ---- discharge
discharge-for : (w : World) (i from stage : ℕ) (v : State) → Sound w → slice_get w.workers i ≡ Some v → v.hand ≡ Emptied from stage → Moves w v (freed v) (after_discharge w.shared from stage v.machine)
discharge-for w i from stage v sound at hand =
    let worker = sound.own i v at in
    let held = rw hand at worker.hand in
    let x = shape-of w i v sound at in
    let machines = ap (λ y. y.machines) x in
    let stages = ap (λ y. y.stages) x in
    let here = machine-in w i v sound at in
    let h0 = held.0 in let h1 = held.1 in let h2 = held.2 in
    let unit : IsUnit w.shared from stage v.machine = (omega arith, omega arith, omega arith, here) in
    let gone : (c : Census) → count c (freed v) + c.emptied from stage v.machine ≡ count c v =
    λ c. ap (λ e. count c (freed v) + e) (sym (ap (of_hand c v.machine) hand)) ∙ freed-count c v in
    let mine : count (credits_of from stage v.machine) (freed v) + one (is_word from stage v.machine from stage v.machine) ≡ count (credits_of from stage v.machine) v = gone (credits_of from stage v.machine) in
    let self : one (is_word from stage v.machine from stage v.machine) ≡ one true = ap one (word-self from stage v.machine) in
    let all = (sound-part w i v sound at).credits from stage v.machine unit in
    let some : 0 < used_at w.shared from stage v.machine = omega arith in
    let less : (m j q : ℕ) → IsUnit w.shared m j q → used_at (after_discharge w.shared from stage v.machine) m j q + one (is_word m j q from stage v.machine) ≡ used_at w.shared m j q =
    λ m j q there. word-lowered w.shared w.shared.used from stage v.machine m j q sound.tables.used unit there some in
    words-moves w i v (freed v) (slice_set w.shared.used (place w.shared from stage v.machine) (used_at w.shared from stage v.machine - 1)) w.shared.flying sound at
    (keeps-of w i v sound at (freed v) (record { place = record { number = refl; machine = refl; shape = refl }; enrolled = refl; marks = refl }) (freed-keeps v worker))
    (length-set w.shared.used (place w.shared from stage v.machine) (used_at w.shared from stage v.machine - 1)) refl
    (λ m j q there. let a = less m j q there in let b = gone (credits_of m j q) in omega arith)
    (λ m j q there. let b = gone (flying_of m j q) in omega arith)
    (λ m j q there. let a = less m j q there in let b = sound.limits m j q there in omega arith)
    (λ m j q there early. let a = less m j q there in omega arith)
    (λ home. let b = gone (buffers_of home) in omega arith)
    (sound.claimed i v at)

pub discharge-happens : (tree : Tree) (w : World) (i : ℕ) (v : State) → Sound w → slice_get w.workers i ≡ Some v → own_guard (Discharge i) v ≡ None → After tree w (Discharge i) v
discharge-happens tree w i v sound at guards =
    let f = discharge-facts v guards in
    subst (λ h. Moves w v (freed v) h) (sym (ap (λ o. discharged_from o v.machine w.shared) f.1.1)) (discharge-for w i f.0 f.1.0 v sound at f.1.1)

-- ---- pick
pick-for : (w : World) (i : ℕ) (v : State) (b : Message) → Sound w → slice_get w.workers i ≡ Some v → own_guard (Pick i) v ≡ None → v.hand ≡ Popped b → can_pick w.shared b.from b.stage b.to ≡ true →
    Moves w v (picked v) (after_pick w.shared b.from b.stage b.to)
pick-for w i v b sound at guards hand can =
    let worker = sound.own i v at in
    let held = rw hand at worker.hand in
    let unit = message-unit w v.shape b (shape-of w i v sound at) held.2 in
    let test : nat_lt 0 (flying_at w.shared b.from b.stage b.to) ≡ true = can in
    let some : 0 < flying_at w.shared b.from b.stage b.to = grind (arith, nat_tests, test) in
    let less : (m j q : ℕ) → IsUnit w.shared m j q → flying_at (after_pick w.shared b.from b.stage b.to) m j q + one (is_word m j q b.from b.stage b.to) ≡ flying_at w.shared m j q =
    λ m j q there. word-lowered w.shared w.shared.flying b.from b.stage b.to m j q sound.tables.flying unit there some in
    words-moves w i v (picked v) w.shared.used (slice_set w.shared.flying (place w.shared b.from b.stage b.to) (flying_at w.shared b.from b.stage b.to - 1)) sound at
    (keeps-of w i v sound at (picked v) (put-picked v v.hand) (picked-keeps v worker guards))
    refl (length-set w.shared.flying (place w.shared b.from b.stage b.to) (flying_at w.shared b.from b.stage b.to - 1))
    (λ m j q there. let a = less m j q there in let c = picked-count (credits_of m j q) v b worker hand in omega arith)
    (λ m j q there. let a = less m j q there in let c = picked-count (flying_of m j q) v b worker hand in omega arith)
    sound.limits
    (λ m j q there early. omega arith)
    (λ home. let c = picked-count (buffers_of home) v b worker hand in omega arith)
    (picked-roots (cursor_at w.shared v.machine) v (sound.claimed i v at))

tested-popped : (test : Message → Bool) (hand : Hand) (b : Message) → hand ≡ Popped b → popped_test test hand ≡ true → test b ≡ true
tested-popped test hand b e t = sym (ap (popped_test test) e) ∙ t

pub pick-happens : (tree : Tree) (w : World) (i : ℕ) (v : State) → Sound w → slice_get w.workers i ≡ Some v → own_guard (Pick i) v ≡ None → shared_guard (Pick i) v w.shared ≡ None → After tree w (Pick i) v
pick-happens tree w i v sound at guards shared =
    let f = pick-facts v guards in
    let can = must-none (popped_test (λ message. can_pick w.shared message.from message.stage message.to) v.hand) guard.Flying None shared in
    subst (λ h. Moves w v (picked v) h) (sym (ap (λ o. picked_from o w.shared) f.1))
    (pick-for w i v f.0 sound at guards f.1 (tested-popped (λ message. can_pick w.shared message.from message.stage message.to) v.hand f.0 f.1 can.0))
