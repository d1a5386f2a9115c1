-- What each attempt of a turn may ask of the fabric, and what it answers.
use Rattle.std.proofs.Common.{◌≡◌, ℕ, ◌+◌, ◌<◌, ◌≤◌, Bool, true, false, not, ◌&&◌, List, [], ◌∷◌, Option, Some, None, is_some, refl, sym, ap, ◌∙◌, subst, arith, inl, inr}
use Rattle.std.specs.Prelude.{nat_eq}
use Rattle.std.proofs.lemmas.Bool.Decides.{nat_tests}
use Rattle.std.proofs.lemmas.Nat.{same_from_place}
use Rattle.adfs_base.specs.Shape.{Extents}
use Rattle.fabric.specs.Account.{Holding, Call, ToCharge, ToPost, ToPush, ToPick, ToDischarge, Given, Nothing, Allows}
use Rattle.match_context.specs.Tree.{Tree}
use Rattle.match_context.specs.declared.context.Context.{Context}
use Rattle.match_context.specs.declared.frame.Frame.{Frame}
use Rattle.match_context.specs.declared.frame.Rest.{Rest}
use Rattle.match_context.specs.declared.frame.Rest.TheVariants as rest
use Rattle.match_context.specs.declared.message.Message.{Message}
use Rattle.dfs_worker.specs.declared.event.Event.{Event}
use Rattle.dfs_worker.specs.declared.event.Event.TheVariants as event
use Rattle.dfs_worker.specs.declared.guard.Guard.{Guard}
use Rattle.dfs_worker.specs.declared.guard.Guard.TheVariants as guard
use Rattle.dfs_worker.specs.declared.hand.Hand.TheVariants.{Posted, Popped, Emptied}
use Rattle.dfs_worker.specs.declared.turn.Turn.TheVariants.{Did, Idle}
use Rattle.dfs_worker.specs.Census.{Census, count, one, of_slot, of_hand, of_stack}
use Rattle.dfs_worker.specs.Guards.{own_guard}
use Rattle.dfs_worker.specs.Own.{advanced}
use Rattle.dfs_worker.specs.Slots.{slot_of, open_at, is_open}
use Rattle.dfs_worker.specs.Sound.{StandsOn, IsStack, IsWorker, WithinRoots}
use Rattle.dfs_worker.specs.State.{State, waiting}
use Rattle.dfs_worker.specs.Turn.{call_of, own_part, left_by, MissedCall, Made, Step, Tried, Holds, Fits, own_credits, works_of, homes_of}
use Rattle.dfs_worker.proofs.Advances.{advanced-keeps}
use Rattle.dfs_worker.proofs.Counts.{advanced-count}
use Rattle.dfs_worker.proofs.Facts.{child-facts, waiting-is}
use Rattle.dfs_worker.proofs.Holdings.{holds-by, SameSelf, fits-with}
use Rattle.dfs_worker.proofs.Places.{open-facts, slot-within, total-set_or}
use Rattle.dfs_worker.proofs.Roots.{advanced-roots}

-- ---- one try
pub did-step : {F : Type 0} (agrees : F → ℕ → Holding → Type 0) (done : F → ℕ → Call → Given → F → Type 0) (excused : F → ℕ → Call → F → Type 0) (shape : F → Extents) (roots : F → ℕ → ℕ)
    (tree : Tree)
    (v v' : State) (f f' : F) (e made : Event) (given : Given) → made ≡ e → own_guard e v ≡ None → v' ≡ own_part tree e given v → Made done f v.number (call_of e v) given f' →
    Fits agrees shape roots tree v' f' → Tried agrees done excused shape roots tree v f (Step e ∷ []) (Did made) v' f'
did-step agrees done excused shape roots tree v v' f f' e made given same own part shared fits =
    record { answered = inl (record { same = same; enabled = own; given = given; own = part; shared = shared }); fits = fits }

pub missed-step : {F : Type 0} (agrees : F → ℕ → Holding → Type 0) (done : F → ℕ → Call → Given → F → Type 0) (excused : F → ℕ → Call → F → Type 0) (shape : F → Extents) (roots : F → ℕ → ℕ)
    (tree : Tree)
    (v v' : State) (f f' : F) (e : Event) → own_guard e v ≡ None → v' ≡ left_by e v → MissedCall excused f v.number (call_of e v) f' →
    Fits agrees shape roots tree v' f' → Tried agrees done excused shape roots tree v f (Step e ∷ []) Idle v' f'
missed-step agrees done excused shape roots tree v v' f f' e own left missed fits =
    record { answered = inr (v', (f', (inr (own, left, missed), (refl, refl, refl)))); fits = fits }

pub barred-step : {F : Type 0} (agrees : F → ℕ → Holding → Type 0) (done : F → ℕ → Call → Given → F → Type 0) (excused : F → ℕ → Call → F → Type 0) (shape : F → Extents) (roots : F → ℕ → ℕ)
    (tree : Tree)
    (v : State) (f : F) (e : Event) → (own_guard e v ≡ None → ⊥) → Fits agrees shape roots tree v f → Tried agrees done excused shape roots tree v f (Step e ∷ []) Idle v f
barred-step agrees done excused shape roots tree v f e barred fits =
    record { answered = inr (v, (f, (inl (barred, refl, refl), (refl, refl, refl)))); fits = fits }

pub guard-barred : (o : Option Guard) → is_some o ≡ true → o ≡ None → ⊥
guard-barred None e h = cc
guard-barred (Some g) e h = cc

-- a guard that no test failed
pub guard-none : (o own : Option Guard) → o ≡ own → is_some o ≡ false → own ≡ None
guard-none None own e h = sym e
guard-none (Some g) own e h = cc

-- ---- what the worker holds
pub same-number : (n : ℕ) → nat_eq n n ≡ true
same-number n = grind (arith, nat_tests)

pub one-true : (b : Bool) → b ≡ true → one b ≡ 1
one-true true e = refl
one-true false e = cc

held-home : (v : State) (x : Holding) (message : Message) → Holds v x → (v.hand ≡ Posted message) → 0 < x.buffers message.items.home
held-home v x message h e =
    let a = h.buffers message.items.home in
    let b = ap (of_hand (homes_of message.items.home) v.machine) e in
    let c = one-true (nat_eq message.items.home message.items.home) (same-number message.items.home) in
    omega arith

pub may-push : {F : Type 0} (agrees : F → ℕ → Holding → Type 0) (shape : F → Extents) (roots : F → ℕ → ℕ) (tree : Tree) (v : State) (f : F) (message : Message) →
    (h : Fits agrees shape roots tree v f) → v.hand ≡ Posted message → Allows v.shape h.holding (ToPush message)
may-push agrees shape roots tree v f message h e = ((rw e at h.worker.hand).1, held-home v h.holding message h.holds e)

pub may-pick : (v : State) (x : Holding) (message : Message) → IsWorker v → v.hand ≡ Popped message → Allows v.shape x (ToPick message.from message.stage)
may-pick v x message h e = let is = (rw e at h.hand).2 in (is.from, (is.some_stage, is.stage))

pub may-discharge : (v : State) (x : Holding) (from stage : ℕ) → IsWorker v → Holds v x → v.hand ≡ Emptied from stage → Allows v.shape x (ToDischarge from stage)
may-discharge v x from stage h held e =
    let is = rw e at h.hand in
    let a = held.works from stage in
    let b = ap (of_hand (works_of from stage) v.machine) e in
    let c : (nat_eq from from && nat_eq stage stage) ≡ true = rw (same-number from, same-number stage) refl in
    let d = one-true (nat_eq from from && nat_eq stage stage) c in
    (is.0, (is.1, is.2), omega arith)

-- the frame at the bottom of the stack of one who has retired has a credit in work
works-below : (shape : Extents) (machine : ℕ) (frame : Frame) (frames : List Frame) → IsStack shape false machine (frame ∷ frames) →
    (from : ℕ) × ((lower : ℕ) × ((lower ≤ frame.stage) × (0 < of_stack (works_of from lower).framed (frame ∷ frames))))
works-below shape machine frame [] h = on frame.rest refl h.0.stands
  where
    on : (r : Rest) → frame.rest ≡ r → StandsOn shape false machine frame.stage 0 [] frame.wait r →
        (from : ℕ) × ((lower : ℕ) × ((lower ≤ frame.stage) × (0 < of_stack (works_of from lower).framed (frame ∷ []))))
    on rest.None e s = absurd (let z = s.0 in let y = s.1 in omega arith)
    on (rest.Roots next end) e s = absurd (let z : false ≡ true = s.2 in cc)
    on (rest.Items message next over) e s =
        let c : (nat_eq message.from message.from && nat_eq message.stage message.stage) ≡ true = rw (same-number message.from, same-number message.stage) refl in
        let d = one-true (nat_eq message.from message.from && nat_eq message.stage message.stage) c in
        let k = s.same_stage in
        (message.from, (message.stage, (omega arith, rw e (omega arith))))
works-below shape machine frame (below ∷ frames) h = on (works-below shape machine below frames h.1) frame.rest h.0.stands
  where
    on : (from : ℕ) × ((lower : ℕ) × ((lower ≤ below.stage) × (0 < of_stack (works_of from lower).framed (below ∷ frames)))) → (r : Rest) →
        StandsOn shape false machine frame.stage (below.stage + 1) (below ∷ frames) frame.wait r →
        (from : ℕ) × ((lower : ℕ) × ((lower ≤ frame.stage) × (0 < of_stack (works_of from lower).framed (frame ∷ below ∷ frames))))
    on w rest.None s = let a = w.1.1.0 in let b = w.1.1.1 in let c = s.0 in (w.0, (w.1.0, (omega arith, omega arith)))
    on w (rest.Roots next end) s = absurd (let z : false ≡ true = s.2 in cc)
    on w (rest.Items message next over) s = let a = w.1.1.0 in let b = w.1.1.1 in let c = s.above in (w.0, (w.1.0, (omega arith, omega arith)))

works-of_retired : (v : State) (x : Holding) (frame : Frame) (frames : List Frame) → IsWorker v → Holds v x → v.stack ≡ frame ∷ frames → x.enrolled ≡ false →
    (from : ℕ) × ((lower : ℕ) × (lower < frame.stage + 1) × (0 < x.works from lower))
works-of_retired v x frame frames h held st out =
    let e : v.enrolled ≡ false = sym held.enrolled ∙ out in
    let w = works-below v.shape v.machine frame frames (subst (λ b. IsStack v.shape b v.machine (frame ∷ frames)) e (rw st at h.stack)) in
    let a = held.works w.0 w.1.0 in
    let b = w.1.1.0 in
    let c = w.1.1.1 in
    let d = ap (of_stack (works_of w.0 w.1.0).framed) st in
    (w.0, (w.1.0, omega arith, omega arith))

may-charge_at : (v : State) (x : Holding) (frame : Frame) (frames : List Frame) (child : Context × ℕ) → IsWorker v → Holds v x → v.stack ≡ frame ∷ frames → frame.wait ≡ Some child →
    Allows v.shape x (ToCharge (frame.stage + 1) child.1)
may-charge_at v x frame frames child h held st wait =
    let s = rw st at h.stack in
    let w = rw wait at s.0.wait in
    ((omega arith, w.0), w.1, works-of_retired v x frame frames h held st)

pub may-charge : (v : State) (x : Holding) (stage to : ℕ) → IsWorker v → Holds v x → own_guard (event.Charge 0) v ≡ None → waiting v.stack ≡ Some (stage, to) →
    Allows v.shape x (ToCharge stage to)
may-charge v x stage to h held own e =
    let at = child-facts v (λ k n. not (is_open v.slots k n)) guard.Open own in
    let waits = at.1.1.1.0 in
    let is = waiting-is v at.0 at.1.0 at.1.1.0 waits in
    let same : Some (at.0.stage + 1, at.1.1.0.1) ≡ Some (stage, to) = sym is ∙ e in
    subst (λ o. by o) same (may-charge_at v x at.0 at.1.0 at.1.1.0 h held waits.stack waits.wait)
  where
    by : Option (ℕ × ℕ) → Type 0
    by None = ⊥
    by (Some child) = Allows v.shape x (ToCharge child.0 child.1)

opens-some : (v : State) (x : Holding) (stage to : ℕ) (message : Message) → IsWorker v → Holds v x → open_at v.slots stage to ≡ Some message → 0 < x.opens stage to
opens-some v x stage to message h held e =
    let at = open-facts v.slots stage to message e in
    let within = slot-within v.shape v.machine v.slots stage to h.slots at.stage_in at.to_in in
    let is = h.slots.each_open (slot_of v.slots.machines stage to) message at.here in
    let machines = h.slots.machines in
    let to_in : to < v.shape.machines = let n = at.to_in in omega arith in
    let same : (message.stage ≡ stage) × (message.to ≡ to) =
    same_from_place message.stage message.to stage to v.shape.machines is.whole.to to_in (is.place ∙ ap (λ q. slot_of q stage to) machines) in
    let taken = total-set_or (of_slot (own_credits stage to).opened) v.slots.messages (slot_of v.slots.machines stage to) None None within in
    let here = ap (of_slot (own_credits stage to).opened) at.here in
    let c : (nat_eq stage message.stage && nat_eq to message.to) ≡ true = rw (same.0, same.1, same-number stage, same-number to) refl in
    let d = one-true (nat_eq stage message.stage && nat_eq to message.to) c in
    let a = held.opens stage to in
    omega arith

pub may-post : (v : State) (x : Holding) (stage to : ℕ) (message : Message) → IsWorker v → Holds v x → open_at v.slots stage to ≡ Some message →
    Allows v.shape x (ToPost stage to)
may-post v x stage to message h held e =
    let at = open-facts v.slots stage to message e in
    let is = h.slots.each_open (slot_of v.slots.machines stage to) message at.here in
    let machines = h.slots.machines in
    let stages = h.slots.stages in
    let n = at.to_in in
    let k = at.stage_in in
    let to_in : to < v.shape.machines = omega arith in
    let same : (message.stage ≡ stage) × (message.to ≡ to) =
    same_from_place message.stage message.to stage to v.shape.machines is.whole.to to_in (is.place ∙ ap (λ q. slot_of q stage to) machines) in
    let s = is.whole.some_stage in
    let z = same.0 in
    ((omega arith, omega arith), to_in, opens-some v x stage to message h held e)

-- ---- each event's own part, when its call was ready
self-same : (v : State) → SameSelf v v
self-same v = record { number = refl; machine = refl; shape = refl }

-- the events without a call leave the fabric as it is
pub fits-alone : {F : Type 0} (agrees : F → ℕ → Holding → Type 0) (shape : F → Extents) (roots : F → ℕ → ℕ) (tree : Tree) (v v' : State) (f : F) →
    (h : Fits agrees shape roots tree v f) → IsWorker v' → SameSelf v v' → v'.enrolled ≡ v.enrolled → v'.marks ≡ v.marks → WithinRoots (tree.roots v.machine) v'.stack →
    ((census : Census) → count census v' ≡ count census v) → Fits agrees shape roots tree v' f
fits-alone agrees shape roots tree v v' f h worker self enrolled marks within counts =
    fits-with agrees shape roots tree v v' f f h.holding h (record { same_shape = refl; same_roots = λ _. refl }) worker self within
    (holds-by v v' h.holding h.holding (λ _. 0) (λ _. 0) (λ census. let e = counts census in omega arith) (h.holds.enrolled ∙ sym enrolled) marks refl (λ _. refl)
    (λ i j. omega arith) (λ i j. omega arith) (λ i. omega arith) h.holds)
    h.agreed

pub advance-tried : {F : Type 0} (agrees : F → ℕ → Holding → Type 0) (done : F → ℕ → Call → Given → F → Type 0) (excused : F → ℕ → Call → F → Type 0) (shape : F → Extents)
    (roots : F → ℕ → ℕ) (tree : Tree)
    (v v' : State) (f : F) (w : ℕ) → Fits agrees shape roots tree v f → own_guard (event.Advance 0) v ≡ None → w ≡ v.number → v' ≡ advanced tree v →
    Tried agrees done excused shape roots tree v f (Step (event.Advance v.number) ∷ []) (Did (event.Advance w)) v' f
advance-tried agrees done excused shape roots tree v v' f w h own same is =
    did-step agrees done excused shape roots tree v v' f f (event.Advance v.number) (event.Advance w) Nothing (ap event.Advance same) own is refl
    (subst (λ u. Fits agrees shape roots tree u f) (sym is)
    (fits-alone agrees shape roots tree v (advanced tree v) f h (advanced-keeps tree v h.tree_fits h.worker own) (record { number = refl; machine = refl; shape = refl }) refl refl
    (advanced-roots (tree.roots v.machine) tree v.machine v.stack h.within) (λ census. advanced-count census tree v)))
