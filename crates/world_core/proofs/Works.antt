-- Every step leaves less work.
use Rattle.std.proofs.Common.{◌≡◌, ◌≢◌, ◌⊎◌, inl, inr, ℕ, ◌+◌, ◌-◌, ◌*◌, ◌<◌, ◌≤◌, Bool, true, false, cond, not, ◌&&◌, List, [], ◌∷◌, length, get_or, replicate, Option, Some, None, refl, sym, ap, subst, ◌∙◌, arith, zero, suc}
use Rattle.std.specs.Prelude.{slice_get, slice_set, nat_lt, nat_eq}
use Rattle.std.proofs.lemmas.Bool.{eqb-true, eq-eqb, ne_eqb}
use Rattle.std.proofs.lemmas.Option.{slice_get-get_or}
use Rattle.adfs_base.specs.declared.step_answers.Word.{Word}
use Rattle.match_context.specs.Bags.{total}
use Rattle.match_context.specs.Tree.{Tree, IsTree}
use Rattle.match_context.specs.declared.frame.Frame.{Frame}
use Rattle.match_context.specs.declared.frame.Rest.{Rest}
use Rattle.match_context.specs.declared.frame.Rest.TheVariants as rest
use Rattle.match_context.specs.declared.message.Message.{Message}
use Rattle.match_context.proofs.Totals.{total-set}
use Rattle.stage_termination.specs.Marks.{Marks, words_of, place_of, is_word, unmarked, with_mark, is_marked, moved_to}
use Rattle.fabric.specs.Calls.{after_close, empty_buffer, pop_answer}
use Rattle.fabric.specs.Shared.{Shared, IsWordOf}
use Rattle.dfs_worker.specs.declared.event.Event.{Event}
use Rattle.dfs_worker.specs.declared.event.Event.TheVariants.{Claim, Retire, Advance, Descend, Append, Charge, Fetch, Post, Push, Pop, Pick, Restore, Discharge, Mark, Close}
use Rattle.dfs_worker.specs.declared.guard.Guard.TheVariants as guard
use Rattle.dfs_worker.specs.declared.hand.Hand.{Hand}
use Rattle.dfs_worker.specs.declared.hand.Hand.TheVariants.{Free, Charged, Posted, Popped, Emptied}
use Rattle.dfs_worker.specs.Census.{one}
use Rattle.dfs_worker.specs.Own.{event_word, retired, marked}
use Rattle.dfs_worker.specs.Slots.{open_at}
use Rattle.dfs_worker.specs.State.{State, waiting}
use Rattle.dfs_worker.proofs.Facts.{must-none, start-facts}
use Rattle.world_core.specs.Owed.{total_below, weight_world}
use Rattle.world_core.specs.Sound.{Sound}
use Rattle.world_core.specs.Step.{Step, worker_of, own_part, shared_part, shared_guard, can_mark, has_mark, has_all_marks, charged_for, pushed_from, picked_from, restored_rest, restored_from, discharged_from, popped_as}
use Rattle.world_core.specs.Work.{work_scale, unmarked_in, unmarked_at, open_stages, closing_work, work_left}
use Rattle.world_core.specs.World.{World, Fits}
use Rattle.world_core.proofs.Happens.{close-facts, StaysPut, put-self, put-descended, put-appended, put-charged, put-fetched, put-posted, put-picked, put-restored}
use Rattle.world_core.proofs.Marks.{and-true, false-at, moved-is, AreMoved, are-moved, can-mark, event-word, place-in, is-word}
use Rattle.world_core.proofs.Parts.{Enabled}
use Rattle.world_core.proofs.Steps.{happens-is}
use Rattle.world_core.proofs.Weighs.{below-same, below-change, spent_by, step-weighs}

-- ---- what a worker has to do for the closing
abbrev closing_by : Bool → Marks → ℕ → ℕ → ℕ
closing_by enrolled marks stages closed = one enrolled + total_below (stages - closed) (λ ahead. unmarked_at marks (closed + ahead))

-- what has to be shown of an event, beside what it spends of the weight
record Closes (s h : Shared) (v v' : State) (spent : ℕ) : Type 0 where
  pub each : (u : State) → closing_work h u ≤ closing_work s u
  pub falls : open_stages h + closing_work h v' + 1 ≤ open_stages s + closing_work s v + spent

total-less : {A : Type 0} (f g : A → ℕ) (xs : List A) (i : ℕ) (v : A) → ((x : A) → f x ≤ g x) → slice_get xs i ≡ Some v → total f xs + g v ≤ total g xs + f v
total-less f g [] i v less e = cc
total-less f g (x ∷ xs) zero v less e =
    let same : x ≡ v = cc in
    let rest = totals xs in
    rw same (omega arith)
  where
    totals : (ys : List _) → total f ys ≤ total g ys
    totals [] = omega arith
    totals (y ∷ ys) = let a = less y in let b = totals ys in omega arith
total-less f g (x ∷ xs) (suc i) v less e = let a = less x in let b = total-less f g xs i v less e in omega arith

-- ---- events that do nothing for it
pub record LeavesClosing (s h : Shared) (v v' : State) : Type 0 where
  pub put : StaysPut v v'
  pub stages : h.shape.stages ≡ s.shape.stages
  pub closed : h.closed ≡ s.closed

leaves-each : (s h : Shared) (u : State) → h.shape.stages ≡ s.shape.stages → h.closed ≡ s.closed → closing_work h u ≡ closing_work s u
leaves-each s h u stages closed = ap (λ k. closing_by u.enrolled u.marks k h.closed) stages ∙ ap (λ k. closing_by u.enrolled u.marks s.shape.stages k) closed

leaves-closes : (s h : Shared) (v v' : State) → LeavesClosing s h v v' → Closes s h v v' 1
leaves-closes s h v v' x =
    let own = leaves-each s h v' x.stages x.closed ∙ ap (λ b. closing_by b v'.marks s.shape.stages s.closed) x.put.enrolled ∙ ap (λ m. closing_by v.enrolled m s.shape.stages s.closed) x.put.marks in
    let stages = x.stages in
    let closed = x.closed in
    record { each = λ u. let a = leaves-each s h u x.stages x.closed in omega arith; falls = omega arith }

-- what of what is shared an event leaves
record SameClosing (s h : Shared) : Type 0 where
  pub stages : h.shape.stages ≡ s.shape.stages
  pub closed : h.closed ≡ s.closed

same-self : (s : Shared) → SameClosing s s
same-self s = record { stages = refl; closed = refl }

same-charged : (o : Option (ℕ × ℕ)) (m : ℕ) (s : Shared) → SameClosing s (charged_for o m s)
same-charged None m s = same-self s
same-charged (Some child) m s = record { stages = refl; closed = refl }

same-pushed : (hand : Hand) (s : Shared) → SameClosing s (pushed_from hand s)
same-pushed Free s = same-self s
same-pushed (Charged k n) s = same-self s
same-pushed (Posted message) s = record { stages = refl; closed = refl }
same-pushed (Popped message) s = same-self s
same-pushed (Emptied m k) s = same-self s

same-picked : (hand : Hand) (s : Shared) → SameClosing s (picked_from hand s)
same-picked Free s = same-self s
same-picked (Charged k n) s = same-self s
same-picked (Posted message) s = same-self s
same-picked (Popped message) s = record { stages = refl; closed = refl }
same-picked (Emptied m k) s = same-self s

same-rest : (r : Rest) (s : Shared) → SameClosing s (restored_rest r s)
same-rest rest.None s = same-self s
same-rest (rest.Roots next end) s = same-self s
same-rest (rest.Items message next over) s = record { stages = refl; closed = refl }

same-restored : (fs : List Frame) (s : Shared) → SameClosing s (restored_from fs s)
same-restored [] s = same-self s
same-restored (f ∷ fs) s = same-rest f.rest s

same-discharged : (hand : Hand) (m : ℕ) (s : Shared) → SameClosing s (discharged_from hand m s)
same-discharged Free m s = same-self s
same-discharged (Charged k n) m s = same-self s
same-discharged (Posted message) m s = same-self s
same-discharged (Popped message) m s = same-self s
same-discharged (Emptied n k) m s = record { stages = refl; closed = refl }

put-popped : (v : State) (o : Option Message) → StaysPut v (popped_as o v)
put-popped v None = put-self v
put-popped v (Some message) = record { place = record { number = refl; machine = refl; shape = refl }; enrolled = refl; marks = refl }

plain : (v v' : State) → StaysPut v v' → (s h : Shared) → SameClosing s h → Closes s h v v' 1
plain v v' put s h same = leaves-closes s h v v' (record { put = put; stages = same.stages; closed = same.closed })

-- ---- a mark
at-same : (marks : Marks) (k : ℕ) → marks.stage ≡ k → unmarked_at marks k ≡ unmarked_in marks.marked
at-same marks k e = ap (λ b. cond b (unmarked_in marks.marked) (words_of marks.machines marks.stages k)) (eq-eqb marks.stage k e)

at-other : (marks : Marks) (k : ℕ) → marks.stage ≢ k → unmarked_at marks k ≡ words_of marks.machines marks.stages k
at-other marks k ne = ap (λ b. cond b (unmarked_in marks.marked) (words_of marks.machines marks.stages k)) (ne_eqb marks.stage k ne)

none-yet : (n : ℕ) → unmarked_in (replicate n false) ≡ n
none-yet zero = refl
none-yet (suc n) = let a = none-yet n in omega arith

moved-unmarked : (marks : Marks) (closed : ℕ) → unmarked_at (moved_to marks closed) closed ≡ unmarked_at marks closed
moved-unmarked marks closed = elim (moved-is marks closed) [
  | inl y ↦ ap (λ m. unmarked_at m closed) y.1
  | inr z ↦ (ap (λ m. unmarked_at m closed) z.1 ∙ at-same (unmarked marks.machines marks.stages closed) closed refl ∙ none-yet (words_of marks.machines marks.stages closed)
      ∙ sym (ap (λ b. cond b (unmarked_in marks.marked) (words_of marks.machines marks.stages closed)) z.0))
]

one-more : (xs : List Bool) (i : ℕ) → i < length xs → get_or xs i false ≡ false → unmarked_in (slice_set xs i true) + 1 ≡ unmarked_in xs
one-more xs i within none =
    let at : slice_get xs i ≡ Some false = slice_get-get_or xs i false within ∙ ap Some none in
    let set = total-set (λ mark. cond mark 0 1) xs i false true at in
    omega arith

-- the word that an event marks has no mark
no-mark : (s : Shared) (marks : Marks) (word : Word) → marks.machines ≡ s.shape.machines → marks.stages ≡ s.shape.stages → s.closed < s.shape.stages → IsWordOf s s.closed word →
    has_mark marks s.closed word ≡ false → get_or (moved_to marks s.closed).marked (place_of (moved_to marks s.closed).machines word) false ≡ false
no-mark s marks word machines stages low is none = elim (moved-is marks s.closed) [
  | inl y ↦ subst (λ m. get_or m.marked (place_of m.machines word) false ≡ false) (sym y.1) (here y.0)
  | inr z ↦ subst (λ m. get_or m.marked (place_of m.machines word) false ≡ false) (sym z.1) (false-at (words_of marks.machines marks.stages s.closed) (place_of marks.machines word))
]
  where
    here : nat_eq marks.stage s.closed ≡ true → get_or marks.marked (place_of marks.machines word) false ≡ false
    here e =
        let stage = eqb-true marks.stage s.closed e in
        let w = is-word s marks word machines stages (omega arith) (subst (λ k. IsWordOf s k word) (sym stage) is) in
        sym (ap (λ b. b && get_or marks.marked (place_of marks.machines word) false) w)
        ∙ sym (ap (λ b. b && is_marked marks word) e) ∙ none

mark-closes : (s : Shared) (v : State) (marks : Marks) (n : ℕ) → s.shape.stages - s.closed ≡ n → 0 < n → marks.stage ≡ s.closed → v.marks.stage ≤ s.closed → marks.machines ≡ v.marks.machines → marks.stages ≡ v.marks.stages →
    unmarked_at marks s.closed + 1 ≡ unmarked_at v.marks s.closed → Closes s s v (record v { marks = marks }) 0
mark-closes s v marks n size some stage before machines stages one_less =
    let f = λ (ahead : ℕ). unmarked_at marks (s.closed + ahead) in
    let g = λ (ahead : ℕ). unmarked_at v.marks (s.closed + ahead) in
    let first : s.closed + 0 ≡ s.closed = omega arith in
    let f0 = ap (unmarked_at marks) first in
    let g0 = ap (unmarked_at v.marks) first in
    let change : total_below n f + g 0 ≡ total_below n g + f 0 = below-change n 0 f g some (λ k ne.
    at-other marks (s.closed + k) (λ e. ne (omega arith))
    ∙ ap (λ m. words_of m marks.stages (s.closed + k)) machines ∙ ap (λ x. words_of v.marks.machines x (s.closed + k)) stages
    ∙ sym (at-other v.marks (s.closed + k) (λ e. ne (omega arith)))) in
    let fn = ap (λ k. total_below k f) size in
    let gn = ap (λ k. total_below k g) size in
    record { each = λ u. omega arith; falls = omega arith }

mark-works : (s : Shared) (v : State) (a b : ℕ) → v.marks.machines ≡ s.shape.machines → v.marks.stages ≡ s.shape.stages → v.marks.stage ≤ s.closed → AreMoved s v.marks (moved_to v.marks s.closed) → can_mark s v.marks a b ≡ true →
    Closes s s v (marked s.closed (event_word s.closed a b) v) 0
mark-works s v a b machines stages before moved can =
    let c = can-mark s v.marks a b can in
    let word = event_word s.closed a b in
    let is = event-word s a b c.0 in
    let low = is.0 in
    let m = moved_to v.marks s.closed in
    let stage = moved.stage in
    let place = place-in s m word (moved.machines ∙ machines) (moved.stages ∙ stages) (omega arith) (subst (λ k. IsWordOf s k word) (sym stage) is.1) in
    let places = moved.marks_of.places in
    let none = no-mark s v.marks word machines stages low is.1 c.2 in
    let less = one-more m.marked (place_of m.machines word) (omega arith) none in
    let after = at-same (with_mark m word) s.closed stage in
    let was = at-same m s.closed stage in
    let same = moved-unmarked v.marks s.closed in
    mark-closes s v (with_mark m word) (s.shape.stages - s.closed) refl (omega arith) stage before moved.machines moved.stages (omega arith)

-- ---- a stage closes
below-shift : (n : ℕ) (f : ℕ → ℕ) → total_below (suc n) f ≡ f 0 + total_below n (λ k. f (k + 1))
below-shift zero f = omega arith
below-shift (suc n) f =
    let a = below-shift n f in
    let b : suc n ≡ n + 1 = omega arith in
    let c = ap f b in
    omega arith

close-each : (s : Shared) (u : State) → s.closed < s.shape.stages → closing_work (after_close s) u ≤ closing_work s u
close-each s u left =
    let n = s.shape.stages - (s.closed + 1) in
    let size : s.shape.stages - s.closed ≡ suc n = omega arith in
    let f = λ (ahead : ℕ). unmarked_at u.marks (s.closed + ahead) in
    let shift = below-shift n f in
    let same = below-same n (λ k. unmarked_at u.marks ((s.closed + 1) + k)) (λ k. f (k + 1)) (λ k low. ap (unmarked_at u.marks) (let e : (s.closed + 1) + k ≡ s.closed + (k + 1) = omega arith in e)) in
    let all = ap (λ k. total_below k f) size in
    omega arith

-- ---- all
event-closes : (t : Tree) (w : World) (e : Event) (v : State) → Sound w → Enabled w e v → Closes w.shared (shared_part e v w.shared) v (own_part t e w.shared v) (spent_by e)
event-closes t w (Claim i) v sound on = plain v _ (record { place = record { number = refl; machine = refl; shape = refl }; enrolled = refl; marks = refl }) w.shared _ (record { stages = refl; closed = refl })
event-closes t w (Retire i) v sound on =
    let starts = start-facts v on.own in
    let before = ap (λ b. closing_by b v.marks w.shared.shape.stages w.shared.closed) starts.enrolled in
    let yes : one true ≡ 1 = refl in
    let no : one false ≡ 0 = refl in
    record { each = λ u. omega arith; falls = omega arith }
event-closes t w (Advance i) v sound on = plain v _ (record { place = record { number = refl; machine = refl; shape = refl }; enrolled = refl; marks = refl }) w.shared _ (same-self w.shared)
event-closes t w (Descend i) v sound on = plain v _ (put-descended v v.stack) w.shared _ (same-self w.shared)
event-closes t w (Append i) v sound on = plain v _ (put-appended v v.stack) w.shared _ (same-self w.shared)
event-closes t w (Charge i) v sound on = plain v _ (put-charged v (waiting v.stack)) w.shared _ (same-charged (waiting v.stack) v.machine w.shared)
event-closes t w (Fetch i) v sound on = plain v _ (put-fetched v (empty_buffer v.machine w.shared.shape.buffer) v.hand) w.shared _ (record { stages = refl; closed = refl })
event-closes t w (Post i k n) v sound on = plain v _ (put-posted v k n (open_at v.slots k n)) w.shared _ (record { stages = refl; closed = refl })
event-closes t w (Push i) v sound on = plain v _ (record { place = record { number = refl; machine = refl; shape = refl }; enrolled = refl; marks = refl }) w.shared _ (same-pushed v.hand w.shared)
event-closes t w (Pop i k) v sound on = plain v _ (put-popped v (pop_answer w.shared v.machine k)) w.shared _ (record { stages = refl; closed = refl })
event-closes t w (Pick i) v sound on = plain v _ (put-picked v v.hand) w.shared _ (same-picked v.hand w.shared)
event-closes t w (Restore i) v sound on = plain v _ (put-restored v v.stack) w.shared _ (same-restored v.stack w.shared)
event-closes t w (Discharge i) v sound on = plain v _ (record { place = record { number = refl; machine = refl; shape = refl }; enrolled = refl; marks = refl }) w.shared _ (same-discharged v.hand v.machine w.shared)
event-closes t w (Mark i a b) v sound on =
    let can = must-none (can_mark w.shared v.marks a b) guard.Word None on.shared in
    let shape = (sound.placed i v on.at).shape in
    mark-works w.shared v a b ((sound.own i v on.at).mark_machines ∙ ap (λ x. x.machines) shape) ((sound.own i v on.at).mark_stages ∙ ap (λ x. x.stages) shape)
    (sound.marks i v on.at).stage (are-moved w.shared v.marks (sound.marks i v on.at)) can.0
event-closes t w (Close i) v sound on =
    let left = (close-facts w i v sound on.at on.shared).left in
    record { each = λ u. close-each w.shared u left; falls = let a = close-each w.shared v left in omega arith }

pub step-works : (t : Tree) (w w' : World) (e : Event) → IsTree t → Fits t w.shared → Sound w → Step t w e w' → work_left t w' < work_left t w
step-works t w w' e law fits sound step =
    let x = step-weighs t w w' e law fits sound step in
    let v = x.0.0 in
    let on = x.0.1.0 in
    let h = shared_part e v w.shared in
    let v' = own_part t e w.shared v in
    let closes = event-closes t w e v sound on in
    let falls = closes.falls in
    let weighs = x.1 work_scale in
    let work = x.0.1.1.work in
    let less = total-less (closing_work h) (closing_work w.shared) w.workers (worker_of e) v closes.each on.at in
    let set = total-set (closing_work h) w.workers (worker_of e) v v' on.at in
    let is = step.change ∙ happens-is t w e v on.at in
    let rest = ap (λ (u : World). open_stages u.shared + total (closing_work u.shared) u.workers) is in
    omega arith
