-- The same of the events by which messages and buffers change places: push, pop and restore.
use Rattle.std.proofs.Common.{◌≡◌, ◌≢◌, ◌⊎◌, inl, inr, ℕ, ◌+◌, ◌-◌, ◌*◌, ◌<◌, ◌≤◌, Bool, true, false, not, ◌&&◌, cond, eqb, ltb, List, [], ◌∷◌, ◌++◌, length, get_or, Option, Some, None, is_some, refl, sym, ap, subst, ◌∙◌, arith, suc}
use Rattle.std.specs.Prelude.{slice_get, slice_set, slice_index, nat_lt}
use Rattle.std.proofs.lemmas.Bool.{eqb-true}
use Rattle.std.proofs.lemmas.Bool.Decides.{nat_tests}
use Rattle.std.proofs.lemmas.List.{length-set}
use Rattle.std.proofs.lemmas.Nat.{same_from_place}
use Rattle.std.proofs.lemmas.Option.{none-some}
use Rattle.adfs_base.specs.Shape.{Extents, pool_of}
use Rattle.match_context.specs.Bags.{total}
use Rattle.match_context.specs.Batch.{Batch}
use Rattle.match_context.specs.Tree.{Tree}
use Rattle.match_context.specs.declared.frame.Frame.{Frame}
use Rattle.match_context.specs.declared.frame.Rest.{Rest}
use Rattle.match_context.specs.declared.frame.Rest.TheVariants as rest
use Rattle.match_context.specs.declared.message.Message.{Message}
use Rattle.match_context.proofs.Totals.{total-set, total-push, get-of_set, get-of_push}
use Rattle.fabric.specs.Calls.{IsMessageOf, after_restore, has_space, can_push, after_push, with_last, first_of, rest_of, first_in, pop_answer, without_first, after_pop}
use Rattle.fabric.specs.Shared.{Shared, IsUnit, cursor_at, pool_at, inbox_place, inbox_at}
pub use Rattle.fabric.proofs.Agrees.{InboxIs, inbox-is}
use Rattle.dfs_worker.specs.declared.event.Event.{Event}
use Rattle.dfs_worker.specs.declared.event.Event.TheVariants.{Push, Pop, Restore}
use Rattle.dfs_worker.specs.declared.guard.Guard.TheVariants as guard
use Rattle.dfs_worker.specs.declared.hand.Hand.{Hand}
use Rattle.dfs_worker.specs.declared.hand.Hand.TheVariants.{Free, Charged, Posted, Popped, Emptied}
use Rattle.dfs_worker.specs.Census.{Census, count, credits_of, flying_of, buffers_of, one, is_word, of_message, of_hand}
use Rattle.dfs_worker.specs.Guards.{own_guard}
use Rattle.dfs_worker.specs.Own.{freed, popped, restored}
use Rattle.dfs_worker.specs.Sound.{IsWorker, IsMessageFrame, WithinRoots}
use Rattle.dfs_worker.specs.State.{State}
use Rattle.dfs_worker.proofs.Counts.{freed-count, popped-count, restored-count}
use Rattle.dfs_worker.proofs.Facts.{must-none, Ends, push-facts, pop-facts, restore-facts}
use Rattle.dfs_worker.proofs.Keeps.{freed-keeps, popped-keeps, restored-keeps}
use Rattle.dfs_worker.proofs.Roots.{restored-roots}
use Rattle.world_core.specs.Sound.{Sound, AreMessages, queued, homes_in}
use Rattle.world_core.specs.Step.{shared_guard, own_part, shared_part, posted_test, popped_as, pushed_from, restored_from, restored_rest}
use Rattle.world_core.specs.World.{World}
use Rattle.world_core.proofs.Happens.{After, StaysPut, put-restored, keeps-of}
use Rattle.world_core.proofs.Marks.{and-true}
use Rattle.world_core.proofs.Moves.{Moves}
use Rattle.world_core.proofs.Moving.{Keeps, stores-moves}
use Rattle.world_core.proofs.Parts.{machine-in, sound-part}
use Rattle.world_core.proofs.Travels.{shape-of, message-unit}
use Rattle.world_core.proofs.Words.{number-raised}

-- ---- an inbox changes
-- a message of the changed inboxes stood there before, or in the inbox that changed
inbox-of_set : (s : Shared) (a j n k : ℕ) (new ms : List Message) (i : ℕ) (b : Message) → j < s.shape.stages → k < s.shape.stages →
    slice_get (slice_set s.inboxes (inbox_place s a j) new) (inbox_place s n k) ≡ Some ms → slice_get ms i ≡ Some b →
    ((n ≡ a) × (k ≡ j) × (slice_get new i ≡ Some b)) ⊎ (slice_get s.inboxes (inbox_place s n k) ≡ Some ms)
inbox-of_set s a j n k new ms i b here there is at = elim (get-of_set s.inboxes (inbox_place s a j) (inbox_place s n k) new ms is) [
  | inl p ↦ (let place = same_from_place n k a j s.shape.stages there here p.0 in inl (place.0, place.1, ap (λ xs. slice_get xs i) (sym p.1) ∙ at))
  | inr q ↦ inr q
]

-- ---- push
pub space-in : (x : Extents) (o : Option (List Message)) → has_space x o ≡ true → (ms : List Message) × (o ≡ Some ms)
space-in x None e = cc
space-in x (Some ms) e = (ms, refl)

push-for : (w : World) (i : ℕ) (v : State) (b : Message) (ms : List Message) → Sound w → slice_get w.workers i ≡ Some v → v.hand ≡ Posted b → inbox_at w.shared b.to b.stage ≡ Some ms →
    Moves w v (freed v) (record w.shared { inboxes = slice_set w.shared.inboxes (inbox_place w.shared b.to b.stage) (ms ++ b ∷ []) })
push-for w i v b ms sound at hand there =
    let worker = sound.own i v at in
    let held = rw hand at worker.hand in
    let shape = shape-of w i v sound at in
    let is : IsMessageOf w.shared.shape b = subst (λ x. IsMessageOf x b) shape held.1 in
    let inbox = inbox-is w.shared b.to b.stage ms there in
    let new = ms ++ b ∷ [] in
    let gone : (c : Census) → count c (freed v) + of_message c.posted b ≡ count c v =
    λ c. ap (λ e. count c (freed v) + e) (sym (ap (of_hand c v.machine) hand)) ∙ freed-count c v in
    stores-moves w i v (freed v) w.shared.pools (slice_set w.shared.inboxes (inbox_place w.shared b.to b.stage) new) sound at
    (keeps-of w i v sound at (freed v) (record { place = record { number = refl; machine = refl; shape = refl }; enrolled = refl; marks = refl }) (freed-keeps v worker))
    refl (length-set w.shared.inboxes (inbox_place w.shared b.to b.stage) new)
    (λ m k n. let c = gone (credits_of m k n) in omega arith)
    (λ m k n unit.
    let c = gone (flying_of m k n) in
    let set = total-set (queued m k n) w.shared.inboxes (inbox_place w.shared b.to b.stage) ms new inbox.at in
    let more = total-push (λ (x : Message). one (is_word m k n x.from x.stage x.to)) ms b in
    omega arith)
    (λ home low.
    let c = gone (buffers_of home) in
    let set = total-set (homes_in home) w.shared.inboxes (inbox_place w.shared b.to b.stage) ms new inbox.at in
    let more = total-push (λ (x : Message). one (eqb x.items.home home)) ms b in
    omega arith)
    (λ n k j xs x low inside here. elim (inbox-of_set w.shared b.to b.stage n k new xs j x inbox.stage low inside here) [
      | inl p ↦ (elim (get-of_push ms b x j p.2) [
        | inl same ↦ (subst (λ y. IsMessageOf w.shared.shape y) (sym same) is, ap (λ (y : Message). y.to) same ∙ sym p.0, ap (λ (y : Message). y.stage) same ∙ sym p.1)
        | inr old ↦ (let was = sound.messages b.to b.stage j ms x inbox.stage inbox.at old in (was.0, was.1 ∙ sym p.0, was.2 ∙ sym p.1))
      ])
      | inr old ↦ sound.messages n k j xs x low old here
    ])
    (sound.claimed i v at)

pub tested-posted : (test : Message → Bool) (hand : Hand) (b : Message) → hand ≡ Posted b → posted_test test hand ≡ true → test b ≡ true
tested-posted test hand b e t = sym (ap (posted_test test) e) ∙ t

pub push-happens : (tree : Tree) (w : World) (i : ℕ) (v : State) → Sound w → slice_get w.workers i ≡ Some v → own_guard (Push i) v ≡ None → shared_guard (Push i) v w.shared ≡ None → After tree w (Push i) v
push-happens tree w i v sound at guards shared =
    let f = push-facts v guards in
    let b = f.0 in
    let can = must-none (posted_test (λ message. can_push w.shared message.to message.stage) v.hand) guard.Inbox None shared in
    let space = tested-posted (λ message. can_push w.shared message.to message.stage) v.hand b f.1 can.0 in
    let inbox = space-in w.shared.shape (inbox_at w.shared b.to b.stage) space in
    subst (λ h. Moves w v (freed v) h)
    (ap (λ o. record w.shared { inboxes = with_last b (inbox_place w.shared b.to b.stage) o w.shared.inboxes }) (sym inbox.1) ∙ sym (ap (λ o. pushed_from o w.shared) f.1))
    (push-for w i v b inbox.0 sound at f.1 inbox.1)

-- ---- pop
pub first-message : (o : Option (List Message)) → is_some (first_in o) ≡ true → (b : Message) × ((bs : List Message) × (o ≡ Some (b ∷ bs)))
first-message None e = cc
first-message (Some []) e = cc
first-message (Some (b ∷ bs)) e = (b, (bs, refl))

pop-for : (w : World) (i k : ℕ) (v : State) (b : Message) (bs : List Message) → Sound w → slice_get w.workers i ≡ Some v → own_guard (Pop i k) v ≡ None → inbox_at w.shared v.machine k ≡ Some (b ∷ bs) →
    Moves w v (popped b v) (record w.shared { inboxes = slice_set w.shared.inboxes (inbox_place w.shared v.machine k) bs })
pop-for w i k v b bs sound at guards there =
    let worker = sound.own i v at in
    let f = pop-facts v k guards in
    let inbox = inbox-is w.shared v.machine k (b ∷ bs) there in
    let is = sound.messages v.machine k 0 (b ∷ bs) b inbox.stage inbox.at refl in
    let shape = shape-of w i v sound at in
    let more : (c : Census) → count c (popped b v) ≡ count c v + of_message c.popped b = λ c. popped-count c v b f.0 in
    stores-moves w i v (popped b v) w.shared.pools (slice_set w.shared.inboxes (inbox_place w.shared v.machine k) bs) sound at
    (keeps-of w i v sound at (popped b v) (record { place = record { number = refl; machine = refl; shape = refl }; enrolled = refl; marks = refl })
    (popped-keeps v b worker (subst (λ j. own_guard (Pop i j) v ≡ None) (sym is.2) guards) is.1 (subst (λ x. IsMessageOf x b) (sym shape) is.0)))
    refl (length-set w.shared.inboxes (inbox_place w.shared v.machine k) bs)
    (λ m j n. let c = more (credits_of m j n) in omega arith)
    (λ m j n unit.
    let c = more (flying_of m j n) in
    let set = total-set (queued m j n) w.shared.inboxes (inbox_place w.shared v.machine k) (b ∷ bs) bs inbox.at in
    omega arith)
    (λ home low.
    let c = more (buffers_of home) in
    let set = total-set (homes_in home) w.shared.inboxes (inbox_place w.shared v.machine k) (b ∷ bs) bs inbox.at in
    omega arith)
    (λ n j p xs x low inside here. elim (inbox-of_set w.shared v.machine k n j bs xs p x inbox.stage low inside here) [
      | inl q ↦ (let was = sound.messages v.machine k (suc p) (b ∷ bs) x inbox.stage inbox.at q.2 in (was.0, was.1 ∙ sym q.0, was.2 ∙ sym q.1))
      | inr old ↦ sound.messages n j p xs x low old here
    ])
    (sound.claimed i v at)

pub pop-happens : (tree : Tree) (w : World) (i k : ℕ) (v : State) → Sound w → slice_get w.workers i ≡ Some v → own_guard (Pop i k) v ≡ None → shared_guard (Pop i k) v w.shared ≡ None → After tree w (Pop i k) v
pop-happens tree w i k v sound at guards shared =
    let can = must-none (is_some (pop_answer w.shared v.machine k)) guard.Inbox None shared in
    let f = first-message (inbox_at w.shared v.machine k) can.0 in
    subst (λ u. Moves w v u (after_pop w.shared v.machine k)) (sym (ap (λ o. popped_as (first_in o) v) f.1.1))
    (subst (λ h. Moves w v (popped f.0 v) h) (ap (λ o. record w.shared { inboxes = without_first (inbox_place w.shared v.machine k) o w.shared.inboxes }) (sym f.1.1))
    (pop-for w i k v f.0 f.1.0 sound at guards f.1.1))

-- ---- restore
restore-for : (w : World) (i : ℕ) (v : State) (frame : Frame) (frames : List Frame) (b : Message) (next : ℕ) → Sound w → slice_get w.workers i ≡ Some v → own_guard (Restore i) v ≡ None → Ends v frame frames b next →
    Moves w v (restored v) (after_restore w.shared b.items.home)
restore-for w i v frame frames b next sound at guards ends =
    let worker = sound.own i v at in
    let stack = rw ends.stack at worker.stack in
    let stands = rw ends.rest at stack.0.stands in
    let here = stands.here in
    let p = stands.packet in
    let shape = ap (λ x. x.machines) (shape-of w i v sound at) in
    let size = sound.tables.pools in
    let from = p.from in
    let home = p.home in
    let within : b.items.home < length w.shared.pools = omega arith in
    let same : (m k n : ℕ) → one (is_word m k n b.from b.stage b.to) ≡ one (is_word m k n b.from b.stage v.machine) = λ m k n. ap (λ x. one (is_word m k n b.from b.stage x)) here in
    stores-moves w i v (restored v) (slice_set w.shared.pools b.items.home (pool_at w.shared b.items.home + 1)) w.shared.inboxes sound at
    (keeps-of w i v sound at (restored v) (put-restored v v.stack) (restored-keeps v worker guards))
    (length-set w.shared.pools b.items.home (pool_at w.shared b.items.home + 1)) refl
    (λ m k n. let c = restored-count (credits_of m k n) v frame frames b next ends in let d = same m k n in omega arith)
    (λ m k n unit. let c = restored-count (flying_of m k n) v frame frames b next ends in omega arith)
    (λ h low. let a = number-raised w.shared.pools b.items.home h within in let c = restored-count (buffers_of h) v frame frames b next ends in omega arith)
    sound.messages (restored-roots (cursor_at w.shared v.machine) v (sound.claimed i v at))

pub restore-happens : (tree : Tree) (w : World) (i : ℕ) (v : State) → Sound w → slice_get w.workers i ≡ Some v → own_guard (Restore i) v ≡ None → After tree w (Restore i) v
restore-happens tree w i v sound at guards =
    let f = restore-facts v guards in
    let ends = f.1.1.1.1 in
    subst (λ h. Moves w v (restored v) h) (sym (ap (λ fs. restored_from fs w.shared) ends.stack ∙ ap (λ r. restored_rest r w.shared) ends.rest))
    (restore-for w i v f.0 f.1.0 f.1.1.0 f.1.1.1.0 sound at guards ends)
