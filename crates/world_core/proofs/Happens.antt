-- Each event, where its guards hold, leaves a sound world sound.
use Rattle.std.proofs.Common.{◌≡◌, ℕ, ◌+◌, ◌-◌, ◌*◌, ◌<◌, ◌≤◌, Bool, true, false, not, ◌&&◌, eqb, List, [], ◌∷◌, ◌++◌, length, get_or, Option, Some, None, is_some, refl, sym, ap, subst, ◌∙◌, arith, ◌⊎◌, inl, inr}
use Rattle.std.specs.Prelude.{slice_get, slice_set, slice_index, nat_lt}
use Rattle.std.proofs.lemmas.Bool.Decides.{nat_tests}
use Rattle.std.proofs.lemmas.List.{length-set, get_or-set_same}
use Rattle.adfs_base.specs.Shape.{limit_of, pool_of}
use Rattle.match_context.specs.Bags.{total}
use Rattle.match_context.specs.Tree.{Tree, IsTree}
use Rattle.match_context.specs.declared.message.Message.{Message}
use Rattle.fabric.specs.Calls.{IsMessageOf, can_claim, chunk_end, after_claim, after_retire, can_charge, after_charge, after_discharge, can_fetch, empty_buffer, after_fetch, after_restore, after_post, can_pick, after_pick, can_push, after_push, pop_answer, after_pop, after_close}
use Rattle.fabric.specs.Shared.{Shared, IsUnit, IsWordOf, place, used_at, flying_at, roots_at, cursor_at, enrolled_at, pool_at}
use Rattle.dfs_worker.specs.declared.event.Event.{Event}
use Rattle.dfs_worker.specs.declared.event.Event.TheVariants.{Claim, Retire, Advance, Descend, Append, Charge, Fetch, Post, Push, Pop, Pick, Restore, Discharge, Mark, Close}
use Rattle.dfs_worker.specs.declared.guard.Guard.TheVariants as guard
use Rattle.dfs_worker.specs.declared.hand.Hand.{Hand}
use Rattle.dfs_worker.specs.declared.hand.Hand.TheVariants.{Free, Charged, Posted, Popped, Emptied}
use Rattle.dfs_worker.specs.Census.{Census, count, credits_of, flying_of, buffers_of, one, is_word, of_message}
use Rattle.dfs_worker.specs.Guards.{own_guard}
use Rattle.dfs_worker.specs.Own as own
use Rattle.dfs_worker.specs.Own.{claimed, retired, advanced, descended, descended_at, descended_by, appended, appended_at, appended_by, charged, fetched, fetched_by, fetched_at, fetched_for, posted, posted_by, freed, popped, picked, picked_by, restored, restored_at, restored_by, event_word, marked}
use Rattle.match_context.specs.Batch.{Batch}
use Rattle.match_context.specs.declared.context.Context.{Context}
use Rattle.match_context.specs.declared.frame.Frame.{Frame}
use Rattle.match_context.specs.declared.frame.Rest.{Rest}
use Rattle.match_context.specs.declared.frame.Rest.TheVariants as rest
use Rattle.stage_termination.specs.Marks.{is_ready}
use Rattle.std.specs.List.{list_all}
use Rattle.std.proofs.lemmas.Bool.{eqb-true}
use Rattle.dfs_worker.specs.Sound.{IsWorker, WithinRoots}
use Rattle.dfs_worker.specs.State.{State, waiting}
use Rattle.dfs_worker.specs.Sound.{TreeFits}
use Rattle.dfs_worker.proofs.Advances.{advanced-keeps}
use Rattle.dfs_worker.proofs.Counts.{claimed-count, retired-count, advanced-count, descended-count, appended-count, charged-count, fetched-count, posted-count, freed-count, popped-count, picked-count, restored-count}
use Rattle.dfs_worker.proofs.Facts.{must-none, start-facts}
use Rattle.dfs_worker.proofs.Keeps.{claimed-keeps, retired-keeps, descended-keeps, appended-keeps, charged-keeps, fetched-keeps, posted-keeps, freed-keeps, popped-keeps, picked-keeps, restored-keeps, marked-keeps}
use Rattle.dfs_worker.proofs.Roots.{claimed-roots, advanced-roots, descended-roots, appended-roots, charged-roots, fetched-roots, posted-roots, picked-roots, restored-roots}
use Rattle.world_core.specs.Sound.{Sound, AreMarks, AreMessages, queued, homes_in, enrolled_of}
use Rattle.world_core.specs.Step.{worker_of, shared_guard, own_part, shared_part, can_mark, has_all_marks}
use Rattle.world_core.specs.World.{World, Fits}
use Rattle.world_core.proofs.Marks.{and-true, ready-marked, marked-marks}
use Rattle.world_core.proofs.Moves.{Moves, SamePlace}
use Rattle.world_core.proofs.Moving.{Keeps, own-moves, words-moves, stores-moves, claim-moves, retire-moves, close-moves, cursors-grow}
use Rattle.world_core.proofs.Parts.{Enabled, machine-in, sound-part}
use Rattle.world_core.proofs.Words.{word-raised, word-lowered, number-raised, number-lowered}

abbrev pub After : Tree → World → Event → State → Type 0
After tree w e v = Moves w v (own_part tree e w.shared v) (shared_part e v w.shared)

-- ---- events of the worker alone
-- An event changes no worker's number, machine or shape; all but retiring leave it enrolled or not.
pub record StaysPut (v v' : State) : Type 0 where
  pub place : SamePlace v v'
  pub enrolled : v'.enrolled ≡ v.enrolled
  pub marks : v'.marks ≡ v.marks

pub put-self : (v : State) → StaysPut v v
put-self v = record { place = record { number = refl; machine = refl; shape = refl }; enrolled = refl; marks = refl }

pub put-child : (v : State) (f : Frame) (fs : List Frame) (o : Option (Context × ℕ)) → StaysPut v (descended_by v f fs o)
put-child v f fs None = put-self v
put-child v f fs (Some child) = record { place = record { number = refl; machine = refl; shape = refl }; enrolled = refl; marks = refl }

pub put-descended : (v : State) (fs : List Frame) → StaysPut v (descended_at v fs)
put-descended v [] = put-self v
put-descended v (f ∷ fs) = put-child v f fs f.wait

pub put-appended-by : (v : State) (f : Frame) (fs : List Frame) (o : Option (Context × ℕ)) → StaysPut v (appended_by v f fs o)
put-appended-by v f fs None = put-self v
put-appended-by v f fs (Some child) = record { place = record { number = refl; machine = refl; shape = refl }; enrolled = refl; marks = refl }

pub put-appended : (v : State) (fs : List Frame) → StaysPut v (appended_at v fs)
put-appended v [] = put-self v
put-appended v (f ∷ fs) = put-appended-by v f fs f.wait

pub put-charged : (v : State) (o : Option (ℕ × ℕ)) → StaysPut v (own.charged_for v o)
put-charged v None = put-self v
put-charged v (Some child) = record { place = record { number = refl; machine = refl; shape = refl }; enrolled = refl; marks = refl }

pub put-fetched-for : (v : State) (k n : ℕ) (b : Batch) (f : Frame) (fs : List Frame) (o : Option (Context × ℕ)) → StaysPut v (fetched_for v k n b f fs o)
put-fetched-for v k n b f fs None = put-self v
put-fetched-for v k n b f fs (Some child) = record { place = record { number = refl; machine = refl; shape = refl }; enrolled = refl; marks = refl }

pub put-fetched-at : (v : State) (k n : ℕ) (b : Batch) (fs : List Frame) → StaysPut v (fetched_at v k n b fs)
put-fetched-at v k n b [] = put-self v
put-fetched-at v k n b (f ∷ fs) = put-fetched-for v k n b f fs f.wait

pub put-fetched : (v : State) (b : Batch) (h : Hand) → StaysPut v (fetched_by v b h)
put-fetched v b Free = put-self v
put-fetched v b (Charged k n) = put-fetched-at v k n b v.stack
put-fetched v b (Posted m) = put-self v
put-fetched v b (Popped m) = put-self v
put-fetched v b (Emptied m k) = put-self v

pub put-posted : (v : State) (k n : ℕ) (o : Option Message) → StaysPut v (posted_by v k n o)
put-posted v k n None = put-self v
put-posted v k n (Some m) = record { place = record { number = refl; machine = refl; shape = refl }; enrolled = refl; marks = refl }

pub put-picked : (v : State) (h : Hand) → StaysPut v (picked_by v h)
put-picked v Free = put-self v
put-picked v (Charged k n) = put-self v
put-picked v (Posted m) = put-self v
put-picked v (Popped m) = record { place = record { number = refl; machine = refl; shape = refl }; enrolled = refl; marks = refl }
put-picked v (Emptied m k) = put-self v

pub put-restored-by : (v : State) (fs : List Frame) (r : Rest) → StaysPut v (restored_by v fs r)
put-restored-by v fs rest.None = put-self v
put-restored-by v fs (rest.Roots next end) = put-self v
put-restored-by v fs (rest.Items m next over) = record { place = record { number = refl; machine = refl; shape = refl }; enrolled = refl; marks = refl }

pub put-restored : (v : State) (fs : List Frame) → StaysPut v (restored_at v fs)
put-restored v [] = put-self v
put-restored v (f ∷ fs) = put-restored-by v fs f.rest

pub keeps-of : (w : World) (i : ℕ) (v : State) → Sound w → slice_get w.workers i ≡ Some v → (v' : State) → StaysPut v v' → IsWorker v' → Keeps w.shared v v'
keeps-of w i v sound at v' put own = record { place = put.place; own = own; enrolled = put.enrolled; marks = subst (AreMarks w.shared) (sym put.marks) (sound.marks i v at) }

pub advance-happens : (tree : Tree) (w : World) (i : ℕ) (v : State) → TreeFits tree v.shape → Sound w → slice_get w.workers i ≡ Some v → own_guard (Advance i) v ≡ None → After tree w (Advance i) v
advance-happens tree w i v fits sound at guards =
    own-moves w i v (advanced tree v) sound at
    (keeps-of w i v sound at (advanced tree v) (record { place = record { number = refl; machine = refl; shape = refl }; enrolled = refl; marks = refl }) (advanced-keeps tree v fits (sound.own i v at) guards))
    (λ c. advanced-count c tree v) (advanced-roots (cursor_at w.shared v.machine) tree v.machine v.stack (sound.claimed i v at))

pub descend-happens : (tree : Tree) (w : World) (i : ℕ) (v : State) → Sound w → slice_get w.workers i ≡ Some v → own_guard (Descend i) v ≡ None → After tree w (Descend i) v
descend-happens tree w i v sound at guards =
    own-moves w i v (descended v) sound at (keeps-of w i v sound at (descended v) (put-descended v v.stack) (descended-keeps v (sound.own i v at) guards))
    (λ c. descended-count c v guards) (descended-roots (cursor_at w.shared v.machine) v (sound.claimed i v at))

pub append-happens : (tree : Tree) (w : World) (i : ℕ) (v : State) → Sound w → slice_get w.workers i ≡ Some v → own_guard (Append i) v ≡ None → After tree w (Append i) v
append-happens tree w i v sound at guards =
    own-moves w i v (appended v) sound at (keeps-of w i v sound at (appended v) (put-appended v v.stack) (appended-keeps v (sound.own i v at) guards))
    (λ c. appended-count c v (sound.own i v at) guards) (appended-roots (cursor_at w.shared v.machine) v (sound.claimed i v at))

pub mark-happens : (tree : Tree) (w : World) (i a b : ℕ) (v : State) → Sound w → slice_get w.workers i ≡ Some v → shared_guard (Mark i a b) v w.shared ≡ None → After tree w (Mark i a b) v
mark-happens tree w i a b v sound at shared =
    let word = event_word w.shared.closed a b in
    let can = must-none (can_mark w.shared v.marks a b) guard.Word None shared in
    own-moves w i v (marked w.shared.closed word v) sound at
    (record {
      place = record { number = refl; machine = refl; shape = refl };
      own = marked-keeps v w.shared.closed word (sound.own i v at);
      enrolled = refl;
      marks = marked-marks w.shared v a b (sound.placed i v at).shape (sound.own i v at) (sound.marks i v at) can.0;
    })
    (λ c. refl) (sound.claimed i v at)

-- ---- roots
pub claim-happens : (tree : Tree) (w : World) (i : ℕ) (v : State) → Sound w → slice_get w.workers i ≡ Some v → own_guard (Claim i) v ≡ None → After tree w (Claim i) v
claim-happens tree w i v sound at guards =
    let starts = start-facts v guards in
    let first = cursor_at w.shared v.machine in
    let end = chunk_end w.shared v.machine in
    let low = machine-in w i v sound at in
    let size = sound.tables.cursors in
    let on : cursor_at (after_claim w.shared v.machine) v.machine ≡ end = get_or-set_same w.shared.cursors v.machine end 0 (omega arith) in
    claim-moves w i v (claimed tree first end v) sound at
    (keeps-of w i v sound at (claimed tree first end v) (record { place = record { number = refl; machine = refl; shape = refl }; enrolled = refl; marks = refl }) (claimed-keeps tree v first end (sound.own i v at) guards))
    (λ c. claimed-count c tree v first end) starts.enrolled
    (claimed-roots (cursor_at (after_claim w.shared v.machine) v.machine) tree v first end
    (subst (λ fs. WithinRoots (cursor_at (after_claim w.shared v.machine) v.machine) fs) (sym starts.stack) tt) (omega arith))

pub retire-happens : (tree : Tree) (w : World) (i : ℕ) (v : State) → Sound w → slice_get w.workers i ≡ Some v → own_guard (Retire i) v ≡ None → shared_guard (Retire i) v w.shared ≡ None → After tree w (Retire i) v
retire-happens tree w i v sound at guards shared =
    let starts = start-facts v guards in
    let part = sound-part w i v sound at in
    let none = must-none (not (can_claim w.shared v.machine)) guard.Roots None shared in
    let stop : not (nat_lt (cursor_at w.shared v.machine) (roots_at w.shared v.machine)) ≡ true = none.0 in
    let most = part.cursors in
    retire-moves w i v (retired v) sound at (record { number = refl; machine = refl; shape = refl }) (retired-keeps v (sound.own i v at) guards)
    (λ c. retired-count c v) starts.enrolled refl (part.enrolled starts.enrolled) (grind (arith, nat_tests, stop, most)) (sound.claimed i v at) (sound.marks i v at)

-- ---- close
-- who closes a stage has seen all its words, and a stage is left to close
pub record ClosesNext (w : World) (v : State) : Type 0 where
  pub same : v.marks.stage ≡ w.shared.closed
  pub left : w.shared.closed < w.shared.shape.stages
  pub all : list_all (λ m. m) v.marks.marked ≡ true

pub close-facts : (w : World) (i : ℕ) (v : State) → Sound w → slice_get w.workers i ≡ Some v → shared_guard (Close i) v w.shared ≡ None → ClosesNext w v
close-facts w i v sound at shared =
    let all = must-none (has_all_marks v.marks w.shared.closed) guard.Marks None shared in
    let parts = and-true (eqb v.marks.stage w.shared.closed) (is_ready v.marks) all.0 in
    let ready = and-true (nat_lt v.marks.stage v.marks.stages) (list_all (λ m. m) v.marks.marked) parts.1 in
    let same : v.marks.stage ≡ w.shared.closed = eqb-true v.marks.stage w.shared.closed parts.0 in
    let low = ready.0 in
    let stages = (sound.own i v at).mark_stages in
    let shape = ap (λ x. x.stages) (sound.placed i v at).shape in
    let below : v.marks.stage < v.marks.stages = grind (arith, nat_tests, low) in
    record { same = same; left = omega arith; all = ready.1 }

pub close-happens : (tree : Tree) (w : World) (i : ℕ) (v : State) → Sound w → slice_get w.workers i ≡ Some v → shared_guard (Close i) v w.shared ≡ None → After tree w (Close i) v
close-happens tree w i v sound at shared =
    let f = close-facts w i v sound at shared in
    let left = f.left in
    let same = f.same in
    let shape = (sound.placed i v at).shape in
    let machines = (sound.own i v at).mark_machines ∙ ap (λ x. x.machines) shape in
    let stages = (sound.own i v at).mark_stages ∙ ap (λ x. x.stages) shape in
    close-moves w i v sound at f.left
    (λ word is. (sound.marks i v at).seen f.same word
    (ready-marked w.shared v.marks word machines stages (omega arith) (sound.marks i v at).places f.all (subst (λ k. IsWordOf w.shared k word) (sym f.same) is)))
