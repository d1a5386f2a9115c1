-- What each step of a turn leaves, when its call was ready.
use Rattle.std.proofs.Common.{◌≡◌, ℕ, ◌<◌, ◌&&◌, [], ◌∷◌, Some, None, refl, sym, ap, ◌∙◌, subst, arith, inl}
use Rattle.std.specs.Prelude.{nat_eq}
use Rattle.std.proofs.lemmas.Nat.{same_from_place}
use Rattle.adfs_base.specs.Shape.{Extents}
use Rattle.fabric.specs.Account.{Holding, Call, ToCharge, ToFetch, ToPost, ToPush, ToPop, ToPick, ToDischarge, Given, Nothing, Taken, Came, holds_after, unlooked}
use Rattle.fabric.specs.Calls.{IsMessageOf, empty_buffer}
use Rattle.fabric.specs.Fabric.{Ready, Missed, machine_in, OnCharge, OnPick}
use Rattle.match_context.specs.Batch.{Batch}
use Rattle.match_context.specs.Tree.{Tree}
use Rattle.match_context.specs.declared.message.Message.{Message}
use Rattle.dfs_worker.specs.declared.event.Event.{Event}
use Rattle.dfs_worker.specs.declared.event.Event.TheVariants as event
use Rattle.dfs_worker.specs.declared.guard.Guard.TheVariants as guard
use Rattle.dfs_worker.specs.declared.hand.Hand.TheVariants.{Free, Posted, Popped, Emptied}
use Rattle.dfs_worker.specs.declared.turn.Turn.TheVariants.{Did, Idle, NoMemory}
use Rattle.dfs_worker.specs.Census.{Census, one, of_message, of_hand}
use Rattle.dfs_worker.specs.Guards.{own_guard}
use Rattle.dfs_worker.specs.Own.{AddsRow, descended, appended, charged, fetched, posted, freed, popped, picked}
use Rattle.dfs_worker.specs.Slots.{Slots, slot_of, open_at, is_open}
use Rattle.dfs_worker.specs.State.{State, waiting}
use Rattle.adfs_base.specs.declared.step_answers.Charge.{Charge}
use Rattle.adfs_base.specs.declared.step_answers.Charge.TheVariants as charge
use Rattle.adfs_base.specs.declared.step_answers.Pick.{Pick}
use Rattle.adfs_base.specs.declared.step_answers.Pick.TheVariants as pick
use Rattle.dfs_worker.specs.Turn.{call_of, push_call, left_by, Step, Tried, Fits, own_credits}
use Rattle.dfs_worker.proofs.Counts.{descended-count, appended-count, charged-count, fetched-count, posted-count, freed-count, popped-count, picked-count}
use Rattle.dfs_worker.proofs.Facts.{child-facts, charged-facts, charges-facts, post-facts, pop-facts}
use Rattle.dfs_worker.proofs.Holdings.{holds-by, SameSelf, fits-after, fits-missed}
use Rattle.dfs_worker.proofs.Keeps.{IsEmpty, descended-keeps, descended-is, appended-keeps, appended-is, charged-keeps, charged-is, fetched-keeps, posted-keeps, posted-is, freed-keeps, popped-keeps, picked-keeps}
use Rattle.dfs_worker.proofs.Places.{open-facts}
use Rattle.dfs_worker.proofs.Roots.{descended-roots, appended-roots, charged-roots, fetched-roots, posted-roots, picked-roots}
use Rattle.dfs_worker.proofs.Asks.{did-step, missed-step, fits-alone, may-push, may-pick, may-discharge, may-charge, may-post}
use Rattle.dfs_worker.proofs.Keeps.{fetched-is, picked-is}

-- ---- what no step without marks changes
pub record Same (v v' : State) : Type 0 where
  pub self : SameSelf v v'
  pub enrolled : v'.enrolled ≡ v.enrolled
  pub marks : v'.marks ≡ v.marks

same-refl : (v : State) → Same v v
same-refl v = record { self = record { number = refl; machine = refl; shape = refl }; enrolled = refl; marks = refl }

pub same-of : (v u w : State) → u ≡ w → Same v w → Same v u
same-of v u w e same = subst (Same v) (sym e) same

-- ---- what a call gives
empty-given : {F : Type 0} (agrees : F → ℕ → Holding → Type 0) (shape : F → Extents) (roots : F → ℕ → ℕ) (tree : Tree) (v : State) (f : F) (buffer : Batch) →
    Fits agrees shape roots tree v f → buffer ≡ empty_buffer (machine_in (shape f) v.number) (shape f).buffer → IsEmpty v buffer
empty-given agrees shape roots tree v f buffer h e =
    let same : empty_buffer (machine_in (shape f) v.number) (shape f).buffer ≡ empty_buffer v.machine v.shape.buffer =
    ap (λ s. empty_buffer (machine_in s v.number) s.buffer) h.same_shape ∙ ap (λ m. empty_buffer m v.shape.buffer) (sym h.number) in
    let is = e ∙ same in
    record { home = ap (λ (b : Batch). b.home) is; size = ap (λ (b : Batch). b.size) is; none = ap (λ (b : Batch). b.items) is }

message-given : {F : Type 0} (agrees : F → ℕ → Holding → Type 0) (shape : F → Extents) (roots : F → ℕ → ℕ) (tree : Tree) (v : State) (f : F) (stage : ℕ) (message : Message) →
    Fits agrees shape roots tree v f → IsMessageOf (shape f) message × (message.to ≡ machine_in (shape f) v.number) × (message.stage ≡ stage) →
    IsMessageOf v.shape message × (message.to ≡ v.machine) × (message.stage ≡ stage)
message-given agrees shape roots tree v f stage message h given =
    (subst (λ s. IsMessageOf s message) h.same_shape given.0, given.1 ∙ ap (λ s. machine_in s v.number) h.same_shape ∙ sym h.number, given.2)

-- ---- post
pub posted-fits : {F : Type 0} (agrees : F → ℕ → Holding → Type 0) (done : F → ℕ → Call → Given → F → Type 0) (shape : F → Extents) (roots : F → ℕ → ℕ) (tree : Tree)
    (v : State) (f f' : F) (stage to : ℕ) → Fits agrees shape roots tree v f → own_guard (event.Post 0 stage to) v ≡ None →
    Ready agrees done shape roots f v.number (ToPost stage to) Nothing f' → Fits agrees shape roots tree (posted stage to v) f'
posted-fits agrees done shape roots tree v f f' stage to h own r =
    let at = post-facts v stage to own in
    let message = at.0 in
    let there = open-facts v.slots stage to message at.1.1 in
    let is = h.worker.slots.each_open (slot_of v.slots.machines stage to) message there.here in
    let machines = h.worker.slots.machines in
    let to_in : to < v.shape.machines = let n = there.to_in in omega arith in
    let place : (message.stage ≡ stage) × (message.to ≡ to) =
    same_from_place message.stage message.to stage to v.shape.machines is.whole.to to_in (is.place ∙ ap (λ q. slot_of q stage to) machines) in
    let s = same-of v (posted stage to v) _ (posted-is v stage to message at.1.1) (record { self = record { number = refl; machine = refl; shape = refl }; enrolled = refl; marks = refl }) in
    let word : (i j : ℕ) → of_message (own_credits i j).opened message ≡ one (nat_eq i stage && nat_eq j to) = λ i j. rw (place.0, place.1) refl in
    fits-after agrees done shape roots tree v (posted stage to v) f f' (ToPost stage to) Nothing h r (may-post v h.holding stage to message h.worker h.holds at.1.1)
    (posted-keeps v stage to h.worker own) s.self (posted-roots (tree.roots v.machine) v stage to h.within)
    (holds-by v (posted stage to v) h.holding (holds_after (ToPost stage to) Nothing h.holding) (λ census. of_message census.opened message) (λ census. of_message census.posted message)
    (λ census. posted-count census v stage to message h.worker at.1.0 at.1.1) (h.holds.enrolled ∙ sym s.enrolled) s.marks refl (λ _. refl)
    (λ i j. let g = word i j in omega arith) (λ i j. omega arith) (λ i. omega arith) h.holds)

-- ---- without a call
pub descend-tried : {F : Type 0} (agrees : F → ℕ → Holding → Type 0) (done : F → ℕ → Call → Given → F → Type 0) (excused : F → ℕ → Call → F → Type 0) (shape : F → Extents)
    (roots : F → ℕ → ℕ) (tree : Tree)
    (v v' : State) (f : F) (w : ℕ) → Fits agrees shape roots tree v f → own_guard (event.Descend 0) v ≡ None → w ≡ v.number → v' ≡ descended v →
    Tried agrees done excused shape roots tree v f (Step (event.Descend v.number) ∷ []) (Did (event.Descend w)) v' f
descend-tried agrees done excused shape roots tree v v' f w h own same is =
    let at = child-facts v (λ stage to. nat_eq to v.machine) guard.Local own in
    let s = same-of v (descended v) _ (descended-is v at.0 at.1.0 at.1.1.0 at.1.1.1.0) (record { self = record { number = refl; machine = refl; shape = refl }; enrolled = refl; marks = refl }) in
    did-step agrees done excused shape roots tree v v' f f (event.Descend v.number) (event.Descend w) Nothing (ap event.Descend same) own is refl
    (subst (λ u. Fits agrees shape roots tree u f) (sym is)
    (fits-alone agrees shape roots tree v (descended v) f h (descended-keeps v h.worker own) s.self s.enrolled s.marks
    (descended-roots (tree.roots v.machine) v h.within) (λ census. descended-count census v own)))

pub append-tried : {F : Type 0} (agrees : F → ℕ → Holding → Type 0) (done : F → ℕ → Call → Given → F → Type 0) (excused : F → ℕ → Call → F → Type 0) (shape : F → Extents)
    (roots : F → ℕ → ℕ) (tree : Tree)
    (v v' : State) (f : F) (w : ℕ) → Fits agrees shape roots tree v f → own_guard (event.Append 0) v ≡ None → w ≡ v.number → v' ≡ appended v →
    Tried agrees done excused shape roots tree v f (Step (event.Append v.number) ∷ []) (Did (event.Append w)) v' f
append-tried agrees done excused shape roots tree v v' f w h own same is =
    let at = child-facts v (Rattle.dfs_worker.specs.Slots.has_room v.slots) guard.Room own in
    let s = same-of v (appended v) _ (appended-is v at.0 at.1.0 at.1.1.0 at.1.1.1.0) (record { self = record { number = refl; machine = refl; shape = refl }; enrolled = refl; marks = refl }) in
    did-step agrees done excused shape roots tree v v' f f (event.Append v.number) (event.Append w) Nothing (ap event.Append same) own is refl
    (subst (λ u. Fits agrees shape roots tree u f) (sym is)
    (fits-alone agrees shape roots tree v (appended v) f h (appended-keeps v h.worker own) s.self s.enrolled s.marks
    (appended-roots (tree.roots v.machine) v h.within) (λ census. appended-count census v h.worker own)))

-- ---- with a call
pub charge-tried : {F : Type 0} (agrees : F → ℕ → Holding → Type 0) (done : F → ℕ → Call → Given → F → Type 0) (excused : F → ℕ → Call → F → Type 0) (shape : F → Extents)
    (roots : F → ℕ → ℕ) (tree : Tree)
    (v v' : State) (f f' : F) (w stage to : ℕ) → Fits agrees shape roots tree v f → own_guard (event.Charge 0) v ≡ None → w ≡ v.number → waiting v.stack ≡ Some (stage, to) →
    Ready agrees done shape roots f w (ToCharge stage to) Nothing f' → v' ≡ charged v →
    Tried agrees done excused shape roots tree v f (Step (event.Charge v.number) ∷ []) (Did (event.Charge w)) v' f'
charge-tried agrees done excused shape roots tree v v' f f' w stage to h own same waits ready is =
    let r = subst (λ n. Ready agrees done shape roots f n (ToCharge stage to) Nothing f') same ready in
    let s = same-of v (charged v) _ (charged-is v (stage, to) waits) (record { self = record { number = refl; machine = refl; shape = refl }; enrolled = refl; marks = refl }) in
    did-step agrees done excused shape roots tree v v' f f' (event.Charge v.number) (event.Charge w) Nothing (ap event.Charge same) own is (rw waits r.made)
    (subst (λ u. Fits agrees shape roots tree u f') (sym is)
    (fits-after agrees done shape roots tree v (charged v) f f' (ToCharge stage to) Nothing h r (may-charge v h.holding stage to h.worker h.holds own waits)
    (charged-keeps v h.worker own) s.self (charged-roots (tree.roots v.machine) v h.within)
    (holds-by v (charged v) h.holding (holds_after (ToCharge stage to) Nothing h.holding) (λ _. 0) (λ census. census.charged v.machine stage to)
    (λ census. let e = charged-count census v (stage, to) own waits in omega arith) (h.holds.enrolled ∙ sym s.enrolled) s.marks refl (λ _. refl)
    (λ i j. omega arith) (λ i j. omega arith) (λ i. omega arith) h.holds)))

pub fetch-tried : {F : Type 0} (agrees : F → ℕ → Holding → Type 0) (done : F → ℕ → Call → Given → F → Type 0) (excused : F → ℕ → Call → F → Type 0) (shape : F → Extents) (roots : F → ℕ → ℕ)
    (tree : Tree)
    (v v' : State) (f f' : F) (w : ℕ) (buffer : Batch) → Fits agrees shape roots tree v f → own_guard (event.Fetch 0) v ≡ None → w ≡ v.number →
    Ready agrees done shape roots f w ToFetch (Taken buffer) f' → v' ≡ fetched buffer v →
    Tried agrees done excused shape roots tree v f (Step (event.Fetch v.number) ∷ []) (Did (event.Fetch w)) v' f'
fetch-tried agrees done excused shape roots tree v v' f f' w buffer h own same ready is =
    let r = subst (λ n. Ready agrees done shape roots f n ToFetch (Taken buffer) f') same ready in
    let hand = charged-facts v own in
    let at = charges-facts v hand.0 hand.1.0 hand.1.1 (rw hand.1.1 at h.worker.hand).0 in
    let s = same-of v (fetched buffer v) _ (fetched-is v buffer hand.0 hand.1.0 at.0 at.1.0 at.1.1.0 at.1.1.1)
    (record { self = record { number = refl; machine = refl; shape = refl }; enrolled = refl; marks = refl }) in
    did-step agrees done excused shape roots tree v v' f f' (event.Fetch v.number) (event.Fetch w) (Taken buffer) (ap event.Fetch same) own is r.made
    (subst (λ u. Fits agrees shape roots tree u f') (sym is)
    (fits-after agrees done shape roots tree v (fetched buffer v) f f' ToFetch (Taken buffer) h r tt
    (fetched-keeps v buffer h.worker own (empty-given agrees shape roots tree v f buffer h r.something)) s.self (fetched-roots (tree.roots v.machine) v buffer h.within)
    (holds-by v (fetched buffer v) h.holding (holds_after ToFetch (Taken buffer) h.holding) (λ census. census.charged v.machine hand.0 hand.1.0)
    (λ census. census.opened v.machine hand.0 hand.1.0 buffer.home)
    (λ census. fetched-count census v buffer hand.0 hand.1.0 h.worker hand.1.1) (h.holds.enrolled ∙ sym s.enrolled) s.marks refl (λ _. refl)
    (λ i j. omega arith) (λ i j. omega arith) (λ i. omega arith) h.holds)))

pub post-tried : {F : Type 0} (agrees : F → ℕ → Holding → Type 0) (done : F → ℕ → Call → Given → F → Type 0) (excused : F → ℕ → Call → F → Type 0) (shape : F → Extents) (roots : F → ℕ → ℕ)
    (tree : Tree)
    (v v' : State) (f f' : F) (stage to : ℕ) (made : Event) → own_guard (event.Post 0 stage to) v ≡ None → made ≡ event.Post v.number stage to → v' ≡ posted stage to v →
    done f v.number (ToPost stage to) Nothing f' → Fits agrees shape roots tree v' f' → Tried agrees done excused shape roots tree v f (Step (event.Post v.number stage to) ∷ []) (Did made) v' f'
post-tried agrees done excused shape roots tree v v' f f' stage to made own same is shared fits =
    did-step agrees done excused shape roots tree v v' f f' (event.Post v.number stage to) made Nothing same own is shared fits

pub push-tried : {F : Type 0} (agrees : F → ℕ → Holding → Type 0) (done : F → ℕ → Call → Given → F → Type 0) (excused : F → ℕ → Call → F → Type 0) (shape : F → Extents) (roots : F → ℕ → ℕ)
    (tree : Tree)
    (v v' : State) (f f' : F) (w : ℕ) (message : Message) → Fits agrees shape roots tree v f → v.hand ≡ Posted message → w ≡ v.number →
    Ready agrees done shape roots f w (ToPush message) Nothing f' → v' ≡ freed v →
    Tried agrees done excused shape roots tree v f (Step (event.Push v.number) ∷ []) (Did (event.Push w)) v' f'
push-tried agrees done excused shape roots tree v v' f f' w message h hand same ready is =
    let r = subst (λ n. Ready agrees done shape roots f n (ToPush message) Nothing f') same ready in
    let own : own_guard (event.Push v.number) v ≡ None = rw hand refl in
    let gone : (census : Census) → of_hand census v.machine v.hand ≡ of_message census.posted message = λ census. ap (of_hand census v.machine) hand in
    did-step agrees done excused shape roots tree v v' f f' (event.Push v.number) (event.Push w) Nothing (ap event.Push same) own is (rw hand r.made)
    (subst (λ u. Fits agrees shape roots tree u f') (sym is)
    (fits-after agrees done shape roots tree v (freed v) f f' (ToPush message) Nothing h r (may-push agrees shape roots tree v f message h hand)
    (freed-keeps v h.worker) (record { number = refl; machine = refl; shape = refl }) h.within
    (holds-by v (freed v) h.holding (holds_after (ToPush message) Nothing h.holding) (λ census. of_message census.posted message) (λ _. 0)
    (λ census. let e = freed-count census v in let g = gone census in omega arith) h.holds.enrolled refl refl (λ _. refl)
    (λ i j. omega arith) (λ i j. omega arith) (λ i. omega arith) h.holds)))

pub pop-tried : {F : Type 0} (agrees : F → ℕ → Holding → Type 0) (done : F → ℕ → Call → Given → F → Type 0) (excused : F → ℕ → Call → F → Type 0) (shape : F → Extents) (roots : F → ℕ → ℕ)
    (tree : Tree)
    (v v' : State) (f f' : F) (w stage : ℕ) (message : Message) → Fits agrees shape roots tree v f → own_guard (event.Pop 0 stage) v ≡ None → 0 < stage → stage < v.shape.stages → w ≡ v.number →
    Ready agrees done shape roots f w (ToPop stage) (Came message) f' → v' ≡ popped message v →
    Tried agrees done excused shape roots tree v f (Step (event.Pop v.number stage) ∷ []) (Did (event.Pop w stage)) v' f'
pop-tried agrees done excused shape roots tree v v' f f' w stage message h own some low same ready is =
    let r = subst (λ n. Ready agrees done shape roots f n (ToPop stage) (Came message) f') same ready in
    let came = message-given agrees shape roots tree v f stage message h r.something in
    let free = (pop-facts v stage own).0 in
    did-step agrees done excused shape roots tree v v' f f' (event.Pop v.number stage) (event.Pop w stage) (Came message) (ap (λ n. event.Pop n stage) same) own is r.made
    (subst (λ u. Fits agrees shape roots tree u f') (sym is)
    (fits-after agrees done shape roots tree v (popped message v) f f' (ToPop stage) (Came message) h r (some, low)
    (popped-keeps v message h.worker (subst (λ k. own_guard (event.Pop 0 k) v ≡ None) (sym came.2) own) came.1 came.0) (record { number = refl; machine = refl; shape = refl }) h.within
    (holds-by v (popped message v) h.holding (holds_after (ToPop stage) (Came message) h.holding) (λ _. 0) (λ census. of_message census.popped message)
    (λ census. let e = popped-count census v message free in omega arith) h.holds.enrolled refl refl (λ _. refl)
    (λ i j. omega arith) (λ i j. omega arith) (λ i. omega arith) h.holds)))

pub pick-tried : {F : Type 0} (agrees : F → ℕ → Holding → Type 0) (done : F → ℕ → Call → Given → F → Type 0) (excused : F → ℕ → Call → F → Type 0) (shape : F → Extents) (roots : F → ℕ → ℕ)
    (tree : Tree)
    (v v' : State) (f f' : F) (w : ℕ) (message : Message) → Fits agrees shape roots tree v f → v.hand ≡ Popped message → w ≡ v.number →
    Ready agrees done shape roots f w (ToPick message.from message.stage) Nothing f' → v' ≡ picked v →
    Tried agrees done excused shape roots tree v f (Step (event.Pick v.number) ∷ []) (Did (event.Pick w)) v' f'
pick-tried agrees done excused shape roots tree v v' f f' w message h hand same ready is =
    let r = subst (λ n. Ready agrees done shape roots f n (ToPick message.from message.stage) Nothing f') same ready in
    let own : own_guard (event.Pick v.number) v ≡ None = rw hand refl in
    let s = same-of v (picked v) _ (picked-is v message hand) (record { self = record { number = refl; machine = refl; shape = refl }; enrolled = refl; marks = refl }) in
    did-step agrees done excused shape roots tree v v' f f' (event.Pick v.number) (event.Pick w) Nothing (ap event.Pick same) own is (rw hand r.made)
    (subst (λ u. Fits agrees shape roots tree u f') (sym is)
    (fits-after agrees done shape roots tree v (picked v) f f' (ToPick message.from message.stage) Nothing h r (may-pick v h.holding message h.worker hand)
    (picked-keeps v h.worker own) s.self (picked-roots (tree.roots v.machine) v h.within)
    (holds-by v (picked v) h.holding (holds_after (ToPick message.from message.stage) Nothing h.holding) (λ census. of_message census.popped message) (λ census. of_message census.framed message)
    (λ census. picked-count census v message h.worker hand) (h.holds.enrolled ∙ sym s.enrolled) s.marks refl (λ _. refl)
    (λ i j. omega arith) (λ i j. omega arith) (λ i. omega arith) h.holds)))

pub discharge-tried : {F : Type 0} (agrees : F → ℕ → Holding → Type 0) (done : F → ℕ → Call → Given → F → Type 0) (excused : F → ℕ → Call → F → Type 0) (shape : F → Extents)
    (roots : F → ℕ → ℕ) (tree : Tree)
    (v v' : State) (f f' : F) (w from stage : ℕ) → Fits agrees shape roots tree v f → v.hand ≡ Emptied from stage → w ≡ v.number →
    Ready agrees done shape roots f w (ToDischarge from stage) Nothing f' → v' ≡ freed v →
    Tried agrees done excused shape roots tree v f (Step (event.Discharge v.number) ∷ []) (Did (event.Discharge w)) v' f'
discharge-tried agrees done excused shape roots tree v v' f f' w from stage h hand same ready is =
    let r = subst (λ n. Ready agrees done shape roots f n (ToDischarge from stage) Nothing f') same ready in
    let own : own_guard (event.Discharge v.number) v ≡ None = rw hand refl in
    let gone : (census : Census) → of_hand census v.machine v.hand ≡ census.emptied from stage v.machine = λ census. ap (of_hand census v.machine) hand in
    did-step agrees done excused shape roots tree v v' f f' (event.Discharge v.number) (event.Discharge w) Nothing (ap event.Discharge same) own is (rw hand r.made)
    (subst (λ u. Fits agrees shape roots tree u f') (sym is)
    (fits-after agrees done shape roots tree v (freed v) f f' (ToDischarge from stage) Nothing h r (may-discharge v h.holding from stage h.worker h.holds hand)
    (freed-keeps v h.worker) (record { number = refl; machine = refl; shape = refl }) h.within
    (holds-by v (freed v) h.holding (holds_after (ToDischarge from stage) Nothing h.holding) (λ census. census.emptied from stage v.machine) (λ _. 0)
    (λ census. let e = freed-count census v in let g = gone census in omega arith) h.holds.enrolled refl refl (λ _. refl)
    (λ i j. omega arith) (λ i j. omega arith) (λ i. omega arith) h.holds)))

-- ---- when a call was not ready
pub missed-tried : {F : Type 0} (agrees : F → ℕ → Holding → Type 0) (done : F → ℕ → Call → Given → F → Type 0) (excused : F → ℕ → Call → F → Type 0) (shape : F → Extents)
    (roots : F → ℕ → ℕ) (tree : Tree)
    (v v' : State) (f f' : F) (w : ℕ) (e : Event) (call : Call) → Fits agrees shape roots tree v f → own_guard e v ≡ None → w ≡ v.number → call_of e v ≡ Some call → left_by e v ≡ v →
    Missed agrees excused shape roots unlooked f w call f' → v' ≡ v → Tried agrees done excused shape roots tree v f (Step e ∷ []) Idle v' f'
missed-tried agrees done excused shape roots tree v v' f f' w e call h own same calls left missed is =
    let m = subst (λ n. Missed agrees excused shape roots unlooked f n call f') same missed in
    missed-step agrees done excused shape roots tree v v' f f' e own (is ∙ sym left) (rw calls m.allowed)
    (subst (λ u. Fits agrees shape roots tree u f') (sym is) (fits-missed agrees excused shape roots tree v f f' call h m))

pub no-memory : {F : Type 0} (agrees : F → ℕ → Holding → Type 0) (done : F → ℕ → Call → Given → F → Type 0) (excused : F → ℕ → Call → F → Type 0) (shape : F → Extents) (roots : F → ℕ → ℕ)
    (tree : Tree)
    (v v' : State) (f : F) → Fits agrees shape roots tree v f → own_guard (event.Advance 0) v ≡ None → AddsRow tree v.machine v.stack → v' ≡ v →
    Tried agrees done excused shape roots tree v f (Step (event.Advance v.number) ∷ []) NoMemory v' f
no-memory agrees done excused shape roots tree v v' f h own adds is =
    record { answered = inl (refl, own, adds, is, refl); fits = subst (λ u. Fits agrees shape roots tree u f) (sym is) h }

-- ---- answers that are not ready
pub charge-missed : (ready missed : Type 0) (answer : Charge) → OnCharge answer ready missed → (answer ≡ charge.Charged → ⊥) → missed
charge-missed ready missed charge.Charged on other = absurd (other refl)
charge-missed ready missed (charge.Full seen) on other = on
charge-missed ready missed (charge.Moved seen found) on other = on

pub pick-missed : (ready missed : Type 0) (answer : Pick) → OnPick answer ready missed → (answer ≡ pick.Picked → ⊥) → missed
pick-missed ready missed pick.Picked on other = absurd (other refl)
pick-missed ready missed (pick.NoneFlying seen) on other = on
pick-missed ready missed (pick.Moved seen found) on other = on

-- the hand is as it was
pub hand-back : (v u v' : State) (message back : Message) → v.hand ≡ Posted message → u ≡ record v { hand = Free } → back ≡ message → v' ≡ record u { hand = Posted back } → v' ≡ v
hand-back v u v' message back hand freed same is =
    is ∙ ap (λ (w : State). record w { hand = Posted back }) freed ∙ ap (λ m. record v { hand = Posted m }) same ∙ ap (λ h. record v { hand = h }) (sym hand)

pub push-missed : {F : Type 0} (agrees : F → ℕ → Holding → Type 0) (done : F → ℕ → Call → Given → F → Type 0) (excused : F → ℕ → Call → F → Type 0) (shape : F → Extents) (roots : F → ℕ → ℕ)
    (tree : Tree)
    (v u v' : State) (f f' : F) (w : ℕ) (message back : Message) → Fits agrees shape roots tree v f → v.hand ≡ Posted message → w ≡ v.number → u ≡ record v { hand = Free } →
    (back ≡ message) × Missed agrees excused shape roots unlooked f w (ToPush message) f' → v' ≡ record u { hand = Posted back } →
    Tried agrees done excused shape roots tree v f (Step (event.Push v.number) ∷ []) Idle v' f'
push-missed agrees done excused shape roots tree v u v' f f' w message back h hand same freed on is =
    missed-tried agrees done excused shape roots tree v v' f f' w (event.Push v.number) (ToPush message) h (rw hand refl) same (ap push_call hand) refl on.1
    (hand-back v u v' message back hand freed on.0 is)
