-- What every step takes and gives of what a world weighs. No row is taken or given, and of the work more is taken.
use Rattle.std.proofs.Common.{◌≡◌, ◌≢◌, ◌⊎◌, inl, inr, ℕ, ◌+◌, ◌-◌, ◌<◌, ◌≤◌, Bool, true, false, cond, not, ltb, min, List, [], ◌∷◌, ◌++◌, length, Option, Some, None, is_some, refl, sym, ap, subst, ◌∙◌, arith, zero, suc}
use Rattle.std.specs.Prelude.{slice_get, slice_set, nat_lt}
use Rattle.std.proofs.lemmas.Bool.{cases_eq}
use Rattle.std.proofs.lemmas.Bool.Decides.{nat_tests}
use Rattle.std.proofs.lemmas.List.{get_or-set_same, get_or-set_other}
use Rattle.match_context.specs.Bags.{total}
use Rattle.match_context.specs.Tree.{Tree, IsTree}
use Rattle.match_context.specs.Weight.{Scale, rows_scale}
use Rattle.match_context.specs.declared.context.Context.{Context}
use Rattle.match_context.specs.declared.expand.Next.{Next}
use Rattle.match_context.specs.declared.expand.Next.TheVariants as next
use Rattle.match_context.specs.declared.frame.Rest.{Rest}
use Rattle.match_context.specs.declared.frame.Rest.TheVariants as rest
use Rattle.match_context.specs.declared.message.Message.{Message}
use Rattle.match_context.proofs.Totals.{total-set, total-push}
use Rattle.fabric.specs.Calls.{can_claim, chunk_end, after_claim, after_retire, after_close, can_charge, after_charge, empty_buffer, after_push, with_last, can_push, pop_answer, first_in, without_first, after_pop}
use Rattle.fabric.specs.Shared.{Shared, cursor_at, roots_at, inbox_place, inbox_at}
use Rattle.dfs_worker.specs.declared.event.Event.{Event}
use Rattle.dfs_worker.specs.declared.event.Event.TheVariants.{Claim, Retire, Advance, Descend, Append, Charge, Fetch, Post, Push, Pop, Pick, Restore, Discharge, Mark, Close}
use Rattle.dfs_worker.specs.declared.guard.Guard.TheVariants as guard
use Rattle.dfs_worker.specs.Guards.{own_guard}
use Rattle.dfs_worker.specs.Own.{answer_at, claimed, retired, event_word, marked}
use Rattle.dfs_worker.specs.State.{State, waiting}
use Rattle.dfs_worker.specs.Weight.{weight_roots, weight_message, weight_worker}
use Rattle.dfs_worker.proofs.Facts.{must-none, start-facts, advance-facts, charged-facts, post-facts, push-facts, pop-facts, pick-facts, restore-facts, discharge-facts}
use Rattle.dfs_worker.proofs.Weights.{won_by, lost_by, lost_at_end, advanced-weight, claimed-weight, weight_roots-split, descended-weight, appended-weight, charged-weight, fetched-weight, posted-weight, pushed-weight, popped-weight, picked-weight, restored-weight, discharged-weight}
use Rattle.world_core.specs.Owed.{weight_inbox, weight_unclaimed, total_below, weight_world, owed}
use Rattle.world_core.specs.Sound.{Sound}
use Rattle.world_core.specs.Step.{Step, worker_of, shared_guard, own_part, shared_part, posted_test, popped_as, pushed_from, charged_for, picked_from, restored_from, restored_rest, discharged_from}
use Rattle.world_core.specs.Work.{work_scale}
use Rattle.world_core.specs.World.{World, Fits}
use Rattle.world_core.proofs.Inboxes.{InboxIs, inbox-is, space-in, first-message, tested-posted}
use Rattle.world_core.proofs.Parts.{Enabled, enabled-facts, machine-in}
use Rattle.world_core.proofs.Steps.{tree-fits, happens-is}
use Rattle.world_core.proofs.Travels.{child-unit}

-- what is shared weighs: messages in inboxes, and roots that aren't claimed
abbrev weight_shared : Scale → Tree → Shared → ℕ
weight_shared s t h = total (weight_inbox s t) h.inboxes + total_below h.shape.machines (weight_unclaimed s t h)

-- One worker and what is shared change. What is given and taken is said for every scale: as many rows are given as
-- taken, and of the work so much more is taken.
pub record Weighs (t : Tree) (w : World) (v v' : State) (g : Shared) (spent : ℕ) : Type 0 where
  pub given : Scale → ℕ
  pub taken : Scale → ℕ
  pub weighs : (s : Scale) → weight_worker s t v + weight_shared s t w.shared + given s ≡ weight_worker s t v' + weight_shared s t g + taken s
  pub rows : (h : Context → ℕ) → given (rows_scale h) ≡ taken (rows_scale h)
  pub work : given work_scale + spent ≤ taken work_scale

-- an event spends work, or it closes
abbrev pub spent_by : Event → ℕ
spent_by (Claim i) = 1
spent_by (Retire i) = 0
spent_by (Advance i) = 1
spent_by (Descend i) = 1
spent_by (Append i) = 1
spent_by (Charge i) = 1
spent_by (Fetch i) = 1
spent_by (Post i k n) = 1
spent_by (Push i) = 1
spent_by (Pop i k) = 1
spent_by (Pick i) = 1
spent_by (Restore i) = 1
spent_by (Discharge i) = 1
spent_by (Mark i a b) = 0
spent_by (Close i) = 0

abbrev pub EventWeighs : Tree → World → Event → State → Type 0
EventWeighs t w e v = Weighs t w v (own_part t e w.shared v) (shared_part e v w.shared) (spent_by e)

pub world-weighs : (s : Scale) (t : Tree) (w : World) (i spent : ℕ) (v v' : State) (g : Shared) → slice_get w.workers i ≡ Some v → (x : Weighs t w v v' g spent) →
    weight_world s t w + x.given s ≡ weight_world s t (record { workers = slice_set w.workers i v'; shared = g }) + x.taken s
world-weighs s t w i spent v v' g at x = let a = total-set (weight_worker s t) w.workers i v v' at in let b = x.weighs s in omega arith

-- ---- claim
pub below-same : (n : ℕ) (f g : ℕ → ℕ) → ((k : ℕ) → k < n → f k ≡ g k) → total_below n f ≡ total_below n g
below-same zero f g h = refl
below-same (suc n) f g h = omega (arith, h n (omega arith), below-same n f g (λ k lt. h k (omega arith)))

-- where f and g agree but at i
pub below-change : (n i : ℕ) (f g : ℕ → ℕ) → i < n → ((k : ℕ) → k ≢ i → f k ≡ g k) → total_below n f + g i ≡ total_below n g + f i
below-change zero i f g lt h = absurd (omega arith)
below-change (suc n) i f g lt h = at-last (cases_eq i n) (λ lt'. below-change n i f g lt' h)
  where
    at-last : (i ≡ n) ⊎ (i ≢ n) → (i < n → total_below n f + g i ≡ total_below n g + f i) → total_below (suc n) f + g i ≡ total_below (suc n) g + f i
    at-last (inl e) rec = rw e (let r = below-same n f g (λ k lt'. h k (λ q. omega arith)) in omega arith)
    at-last (inr ne) rec = let r = rec (omega arith) in let s = h n (λ q. ne (sym q)) in omega arith

unclaimed-other : (s : Scale) (t : Tree) (h : Shared) (a m : ℕ) → m ≢ a → weight_unclaimed s t (after_claim h a) m ≡ weight_unclaimed s t h m
unclaimed-other s t h a m ne = rw (get_or-set_other h.cursors a m (chunk_end h a) 0 ne) refl

unclaimed-own : (s : Scale) (t : Tree) (h : Shared) (a : ℕ) → a < length h.cursors → cursor_at h a < roots_at h a →
    weight_unclaimed s t h a ≡ weight_roots s t a (chunk_end h a - cursor_at h a) (cursor_at h a) + weight_unclaimed s t (after_claim h a) a
unclaimed-own s t h a within lt =
    rw (get_or-set_same h.cursors a (chunk_end h a) 0 within)
    (let e : roots_at h a - cursor_at h a ≡ (chunk_end h a - cursor_at h a) + (roots_at h a - chunk_end h a) = omega arith in
    let e' : cursor_at h a + (chunk_end h a - cursor_at h a) ≡ chunk_end h a = omega arith in
    rw e (rw e' at (weight_roots-split s t a (chunk_end h a - cursor_at h a) (roots_at h a - chunk_end h a) (cursor_at h a))))

claim-weighs : (t : Tree) (w : World) (i : ℕ) (v : State) → Fits t w.shared → Sound w → slice_get w.workers i ≡ Some v → own_guard (Claim i) v ≡ None → shared_guard (Claim i) v w.shared ≡ None → EventWeighs t w (Claim i) v
claim-weighs t w i v fits sound at own shared =
    let can = must-none (can_claim w.shared v.machine) guard.Roots None shared in
    let test : nat_lt (cursor_at w.shared v.machine) (roots_at w.shared v.machine) ≡ true = can.0 in
    let lt : cursor_at w.shared v.machine < roots_at w.shared v.machine = grind (arith, nat_tests, test) in
    let here = machine-in w i v sound at in
    let size = sound.tables.cursors in
    let some = sound.tables.shape.some_stage in
    let stages = fits.stages in
    record {
      given = λ s. 0;
      taken = λ s. s.held;
      weighs = λ s.
          let b = below-change w.shared.shape.machines v.machine (weight_unclaimed s t (after_claim w.shared v.machine)) (weight_unclaimed s t w.shared) here (λ m ne. unclaimed-other s t w.shared v.machine m ne) in
          let c = unclaimed-own s t w.shared v.machine (omega arith) lt in
          let d = claimed-weight s t v (cursor_at w.shared v.machine) (chunk_end w.shared v.machine) own (omega arith) (omega arith) in
          omega arith;
      rows = λ h. refl;
      work = omega arith;
    }

-- ---- advance
no-loss : (h : Context → ℕ) (r : Rest) (a : Next) → lost_by (rows_scale h) r a ≡ won_by (rows_scale h) a
no-loss h r (next.Child c n) = refl
no-loss h r (next.Row c) = refl
no-loss h r next.Skip = refl
no-loss h rest.None next.End = refl
no-loss h (rest.Roots i last) next.End = same (ltb i last)
  where
    same : (b : Bool) → 0 + cond b 0 0 ≡ 0
    same true = refl
    same false = refl
no-loss h (rest.Items b i over) next.End = same (ltb i (length b.items.items))
  where
    same : (b : Bool) → 0 + cond b 0 0 ≡ 0
    same true = refl
    same false = refl

advance-works : (r : Rest) (a : Next) → won_by work_scale a + 1 ≤ lost_by work_scale r a
advance-works r (next.Child c n) = omega arith
advance-works r (next.Row c) = omega arith
advance-works r next.Skip = omega arith
advance-works rest.None next.End = omega arith
advance-works (rest.Roots i last) next.End = omega arith
advance-works (rest.Items b i over) next.End = omega arith

advance-weighs : (t : Tree) (w : World) (i : ℕ) (v : State) → IsTree t → Fits t w.shared → Sound w → slice_get w.workers i ≡ Some v → own_guard (Advance i) v ≡ None → EventWeighs t w (Advance i) v
advance-weighs t w i v law fits sound at own =
    let top = advance-facts v own in
    record {
      given = λ s. won_by s (answer_at t v.machine top.0);
      taken = λ s. lost_by s top.0.rest (answer_at t v.machine top.0);
      weighs = λ s. let a = advanced-weight s t v top.0 top.1.0 (tree-fits t w i v law fits sound at) (sound.own i v at) top.1.1 in omega arith;
      rows = λ h. sym (no-loss h top.0.rest (answer_at t v.machine top.0));
      work = advance-works top.0.rest (answer_at t v.machine top.0);
    }

-- ---- push and pop
push-weighs : (t : Tree) (w : World) (i : ℕ) (v : State) → own_guard (Push i) v ≡ None → shared_guard (Push i) v w.shared ≡ None → EventWeighs t w (Push i) v
push-weighs t w i v own shared =
    let f = push-facts v own in
    let b = f.0 in
    let can = must-none (posted_test (λ message. can_push w.shared message.to message.stage) v.hand) guard.Inbox None shared in
    let space = tested-posted (λ message. can_push w.shared message.to message.stage) v.hand b f.1 can.0 in
    let inbox = space-in w.shared.shape (inbox_at w.shared b.to b.stage) space in
    let is = inbox-is w.shared b.to b.stage inbox.0 inbox.1 in
    let part : shared_part (Push i) v w.shared ≡ record w.shared { inboxes = slice_set w.shared.inboxes (inbox_place w.shared b.to b.stage) (inbox.0 ++ b ∷ []) } =
    ap (λ o. pushed_from o w.shared) f.1 ∙ ap (λ o. record w.shared { inboxes = with_last b (inbox_place w.shared b.to b.stage) o w.shared.inboxes }) inbox.1 in
    record {
      given = λ s. s.sent;
      taken = λ s. s.posted;
      weighs = λ s.
          let a = pushed-weight s t v b f.1 in
          let set = total-set (weight_inbox s t) w.shared.inboxes (inbox_place w.shared b.to b.stage) inbox.0 (inbox.0 ++ b ∷ []) is.at in
          let more = total-push (λ message. s.sent + weight_message s t message) inbox.0 b in
          let c = ap (weight_shared s t) part in
          omega arith;
      rows = λ h. refl;
      work = omega arith;
    }

pop-weighs : (t : Tree) (w : World) (i k : ℕ) (v : State) → own_guard (Pop i k) v ≡ None → shared_guard (Pop i k) v w.shared ≡ None → EventWeighs t w (Pop i k) v
pop-weighs t w i k v own shared =
    let can = must-none (is_some (pop_answer w.shared v.machine k)) guard.Inbox None shared in
    let f = first-message (inbox_at w.shared v.machine k) can.0 in
    let b = f.0 in
    let bs = f.1.0 in
    let is = inbox-is w.shared v.machine k (b ∷ bs) f.1.1 in
    let part : after_pop w.shared v.machine k ≡ record w.shared { inboxes = slice_set w.shared.inboxes (inbox_place w.shared v.machine k) bs } =
    ap (λ o. record w.shared { inboxes = without_first (inbox_place w.shared v.machine k) o w.shared.inboxes }) f.1.1 in
    record {
      given = λ s. s.popped;
      taken = λ s. s.sent;
      weighs = λ s.
          let mine = ap (weight_worker s t) (ap (λ o. popped_as (first_in o) v) f.1.1) in
          let a = popped-weight s t v b (pop-facts v k own).0 in
          let set = total-set (weight_inbox s t) w.shared.inboxes (inbox_place w.shared v.machine k) (b ∷ bs) bs is.at in
          let c = ap (weight_shared s t) part in
          omega arith;
      rows = λ h. refl;
      work = omega arith;
    }

-- ---- all
same-weighs : (t : Tree) (w : World) (v v' : State) (g : Shared) → ((s : Scale) → weight_worker s t v' + weight_shared s t g ≡ weight_worker s t v + weight_shared s t w.shared) → Weighs t w v v' g 0
same-weighs t w v v' g same = record { given = λ s. 0; taken = λ s. 0; weighs = λ s. let a = same s in omega arith; rows = λ h. refl; work = omega arith }

pub event-weighs : (t : Tree) (w : World) (e : Event) (v : State) → IsTree t → Fits t w.shared → Sound w → Enabled w e v → EventWeighs t w e v
event-weighs t w (Claim i) v law fits sound on = claim-weighs t w i v fits sound on.at on.own on.shared
event-weighs t w (Retire i) v law fits sound on = same-weighs t w v (retired v) (after_retire w.shared v.machine) (λ s. refl)
event-weighs t w (Advance i) v law fits sound on = advance-weighs t w i v law fits sound on.at on.own
event-weighs t w (Descend i) v law fits sound on =
    record {
      given = λ s. 0;
      taken = λ s. s.waiting;
      weighs = λ s. let a = descended-weight s t v (tree-fits t w i v law fits sound on.at) (sound.own i v on.at) on.own in omega arith;
      rows = λ h. refl;
      work = omega arith;
    }
event-weighs t w (Append i) v law fits sound on =
    record {
      given = λ s. s.held;
      taken = λ s. s.waiting;
      weighs = λ s. let a = appended-weight s t v (sound.own i v on.at) on.own in omega arith;
      rows = λ h. refl;
      work = omega arith;
    }
event-weighs t w (Charge i) v law fits sound on =
    let f = child-unit w i v sound on.at on.own in
    record {
      given = λ s. s.charged;
      taken = λ s. s.waiting;
      weighs = λ s.
          let a = charged-weight s t v (f.0, f.1.0) on.own f.1.1.0 in
          let c = ap (weight_shared s t) (ap (λ o. charged_for o v.machine w.shared) f.1.1.0) in
          omega arith;
      rows = λ h. refl;
      work = omega arith;
    }
event-weighs t w (Fetch i) v law fits sound on =
    let f = charged-facts v on.own in
    record {
      given = λ s. s.opened + s.held;
      taken = λ s. s.charged;
      weighs = λ s. let a = fetched-weight s t v (empty_buffer v.machine w.shared.shape.buffer) f.0 f.1.0 (sound.own i v on.at) f.1.1 refl in omega arith;
      rows = λ h. refl;
      work = omega arith;
    }
event-weighs t w (Post i k n) v law fits sound on =
    let f = post-facts v k n on.own in
    record {
      given = λ s. s.posted;
      taken = λ s. s.opened;
      weighs = λ s. let a = posted-weight s t v k n f.0 (sound.own i v on.at) f.1.0 f.1.1 in omega arith;
      rows = λ h. refl;
      work = omega arith;
    }
event-weighs t w (Push i) v law fits sound on = push-weighs t w i v on.own on.shared
event-weighs t w (Pop i k) v law fits sound on = pop-weighs t w i k v on.own on.shared
event-weighs t w (Pick i) v law fits sound on =
    let f = pick-facts v on.own in
    record {
      given = λ s. s.framed;
      taken = λ s. s.popped + s.held;
      weighs = λ s.
          let a = picked-weight s t v f.0 (tree-fits t w i v law fits sound on.at) (sound.own i v on.at) f.1 in
          let c = ap (weight_shared s t) (ap (λ o. picked_from o w.shared) f.1) in
          omega arith;
      rows = λ h. refl;
      work = omega arith;
    }
event-weighs t w (Restore i) v law fits sound on =
    let f = restore-facts v on.own in
    let ends = f.1.1.1.1 in
    record {
      given = λ s. s.emptied;
      taken = λ s. s.framed;
      weighs = λ s.
          let a = restored-weight s t v f.0 f.1.0 f.1.1.0 f.1.1.1.0 (sound.own i v on.at) ends in
          let c = ap (weight_shared s t) (ap (λ fs. restored_from fs w.shared) ends.stack ∙ ap (λ r. restored_rest r w.shared) ends.rest) in
          omega arith;
      rows = λ h. refl;
      work = omega arith;
    }
event-weighs t w (Discharge i) v law fits sound on =
    let f = discharge-facts v on.own in
    record {
      given = λ s. 0;
      taken = λ s. s.emptied;
      weighs = λ s.
          let a = discharged-weight s t v f.0 f.1.0 f.1.1 in
          let c = ap (weight_shared s t) (ap (λ o. discharged_from o v.machine w.shared) f.1.1) in
          omega arith;
      rows = λ h. refl;
      work = omega arith;
    }
event-weighs t w (Mark i a b) v law fits sound on = same-weighs t w v (marked w.shared.closed (event_word w.shared.closed a b) v) w.shared (λ s. refl)
event-weighs t w (Close i) v law fits sound on = same-weighs t w v v (after_close w.shared) (λ s. refl)

pub step-weighs : (t : Tree) (w w' : World) (e : Event) → IsTree t → Fits t w.shared → Sound w → Step t w e w' →
    (x : (v : State) × (Enabled w e v × EventWeighs t w e v)) × ((s : Scale) → weight_world s t w + x.1.1.given s ≡ weight_world s t w' + x.1.1.taken s)
step-weighs t w w' e law fits sound step =
    let x = enabled-facts w e step.enabled in
    let y = event-weighs t w e x.0 law fits sound x.1 in (
      (x.0, (x.1, y)),
      λ s.
          world-weighs s t w (worker_of e) (spent_by e) x.0 (own_part t e w.shared x.0) (shared_part e x.0 w.shared) x.1.at y
          ∙ ap (λ u. weight_world s t u + y.taken s) (sym (step.change ∙ happens-is t w e x.0 x.1.at)),
    )

pub step-owes : (h : Context → ℕ) (t : Tree) (w w' : World) (e : Event) → IsTree t → Fits t w.shared → Sound w → Step t w e w' → owed h t w ≡ owed h t w'
step-owes h t w w' e law fits sound step =
    let x = step-weighs t w w' e law fits sound step in
    let a = x.1 (rows_scale h) in
    let b = x.0.1.1.rows h in
    omega arith
