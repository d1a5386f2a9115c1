-- What each event does to the weight of its worker.
use Rattle.std.proofs.Common.{◌≡◌, ℕ, ◌+◌, ◌-◌, ◌<◌, ◌≤◌, Bool, true, false, cond, not, List, [], ◌∷◌, ◌++◌, length, get_or, drop, Option, Some, None, refl, sym, ap, ◌∙◌, arith, zero, suc, add-one}
use Rattle.std.specs.Prelude.{nat_lt, nat_eq, slice_set}
use Rattle.std.proofs.Math.Seq.{drop-cons}
use Rattle.std.proofs.lemmas.Bool.Decides.{nat_tests}
use Rattle.std.proofs.lemmas.List.{drop_all}
use Rattle.std.proofs.lemmas.Nat.{same_from_place}
use Rattle.match_context.specs.Bags.{total}
use Rattle.match_context.specs.Batch.{Batch}
use Rattle.match_context.specs.declared.context.Context.{Context}
use Rattle.match_context.specs.declared.expand.Next.{Next}
use Rattle.match_context.specs.declared.expand.Next.TheVariants.{Child, Row, Skip, End}
use Rattle.match_context.specs.declared.frame.Frame.{Frame}
use Rattle.match_context.specs.declared.frame.Rest.{Rest}
use Rattle.match_context.specs.declared.frame.Rest.TheVariants as rest
use Rattle.match_context.specs.declared.message.Message.{Message}
use Rattle.match_context.specs.Tree.{Tree, IsTree, Item, Below, Leaf, Pass, answer, after}
use Rattle.match_context.specs.Weight.{Scale, weight, weight_from}
use Rattle.match_context.proofs.Totals.{total-push}
use Rattle.match_context.proofs.Weights.{weight_from-next, weight-unfold}
use Rattle.dfs_worker.specs.declared.event.Event.TheVariants as event
use Rattle.dfs_worker.specs.declared.guard.Guard.TheVariants as guard
use Rattle.dfs_worker.specs.declared.hand.Hand.TheVariants.{Free, Charged, Posted, Popped, Emptied}
use Rattle.dfs_worker.specs.Guards.{own_guard}
use Rattle.dfs_worker.specs.Own.{claimed, retired, ended, stepped, rows_with, onto, answer_at, advanced, descended, descended_by, appended, appended_by, charged, opened_with, fetched, fetched_for, posted, posted_by, freed, popped, message_frame, picked, picked_by, restored, restored_by}
use Rattle.dfs_worker.specs.Slots.{Slots, slot_of, open_at, is_open, has_room, room_in, added, added_to}
use Rattle.dfs_worker.specs.Sound.{StandsOn, IsWorker, TreeFits}
use Rattle.dfs_worker.specs.State.{State, is_over, next_stage, waiting}
use Rattle.dfs_worker.specs.Weight.{weight_held, weight_roots, weight_message, weight_rest, weight_frame, weight_stack, weight_hand, weight_slot, weight_worker}
use Rattle.dfs_worker.proofs.Counts.{child-exists}
use Rattle.dfs_worker.proofs.Facts.{Waits, Works, Ends, Charges, start-facts, child-facts, charges-facts}
use Rattle.dfs_worker.proofs.Keeps.{descended-is, appended-is, charged-is, fetched-is, posted-is, picked-is, restored-is}
use Rattle.dfs_worker.proofs.Places.{open-facts, none-facts, slot-within, total-set_or}

-- ---- contexts in buffers
weight_held-append : (s : Scale) (t : Tree) (k m : ℕ) (xs : List Context) (c : Context) →
    weight_held s t k m (xs ++ c ∷ []) ≡ weight_held s t k m xs + s.held + weight s t k m c
weight_held-append s t k m [] c = omega arith
weight_held-append s t k m (x ∷ xs) c = omega (arith, weight_held-append s t k m xs c)

slot-changed : (s : Scale) (t : Tree) (slots : Slots) (at : ℕ) (message : Option Message) → at < length slots.messages →
    total (weight_slot s t) (slice_set slots.messages at message) + weight_slot s t (get_or slots.messages at None)
    ≡ total (weight_slot s t) slots.messages + weight_slot s t message
slot-changed s t slots at message h = total-set_or (weight_slot s t) slots.messages at message None h

-- ---- the end of a context
-- what is lost when a context ends
abbrev pub lost_at_end : Scale → Rest → ℕ
lost_at_end s rest.None = s.ended
lost_at_end s (rest.Roots next end) = s.ended + cond (nat_lt next end) s.held 0
lost_at_end s (rest.Items message next over) = s.ended + cond (nat_lt next (length message.items.items)) s.held 0

roots-step : (s : Scale) (t : Tree) (m n d i : ℕ) → n ≡ suc d → weight_roots s t m n i ≡ s.held + weight s t 0 m (t.root m i) + weight_roots s t m d (i + 1)
roots-step s t m n d i e = rw e refl

roots-none : (s : Scale) (t : Tree) (m n i : ℕ) → n ≡ 0 → weight_roots s t m n i ≡ 0
roots-none s t m n i e = rw e refl

-- the top is here as `next` left it, at an End
ended-roots : (s : Scale) (t : Tree) (m : ℕ) (f : Frame) (fs : List Frame) (next end : ℕ) (b : Bool) → nat_lt next end ≡ b →
    f.wait ≡ None → f.stage ≡ 0 → 0 < t.stages →
    s.ended + weight_roots s t m (end - next) next + weight_stack s t s.waiting m fs
    ≡ weight_stack s t s.waiting m (onto (ended t m f (rest.Roots next end)) fs) + lost_at_end s (rest.Roots next end)
ended-roots s t m f fs next end true e w k h =
    let lt : next < end = grind (arith, nat_tests) in
    let a = roots-step s t m (end - next) (end - (next + 1)) next (omega arith) in
    let u = weight-unfold s t 0 m (t.root m next) h in
    rw (e, k, w) (omega arith)
ended-roots s t m f fs next end false e w k h =
    let le : end ≤ next = grind (arith, nat_tests) in
    let a = roots-none s t m (end - next) next (omega arith) in
    rw e (omega arith)

held-step : (s : Scale) (t : Tree) (k m : ℕ) (xs : List Context) (next : ℕ) (d : Context) → next < length xs →
    weight_held s t k m (drop next xs) ≡ s.held + weight s t k m (get_or xs next d) + weight_held s t k m (drop (next + 1) xs)
held-step s t k m xs next d h = rw (drop-cons xs next d h, add-one) refl

held-none : (s : Scale) (t : Tree) (k m : ℕ) (xs : List Context) (next : ℕ) → length xs ≤ next → weight_held s t k m (drop next xs) ≡ 0
held-none s t k m xs next h = rw (drop_all next xs h) refl

ended-items : (s : Scale) (t : Tree) (m : ℕ) (f : Frame) (fs : List Frame) (x : Message) (next : ℕ) (b : Bool) → nat_lt next (length x.items.items) ≡ b →
    f.wait ≡ None → f.stage < t.stages →
    s.ended + (s.framed + weight_held s t f.stage m (drop next x.items.items)) + weight_stack s t s.waiting m fs
    ≡ weight_stack s t s.waiting m (onto (ended t m f (rest.Items x next false)) fs) + lost_at_end s (rest.Items x next false)
ended-items s t m f fs x next true e w h =
    let lt : next < length x.items.items = grind (arith, nat_tests) in
    let a = held-step s t f.stage m x.items.items next f.context lt in
    let u = weight-unfold s t f.stage m (get_or x.items.items next f.context) h in
    rw (e, w) (omega arith)
ended-items s t m f fs x next false e w h =
    let le : length x.items.items ≤ next = grind (arith, nat_tests) in
    let a = held-none s t f.stage m x.items.items next le in
    rw (e, w) (omega arith)

-- what the rest of a frame at work asks of it: later roots stand in a frame of stage 0
abbrev pub IsRestOf : ℕ → Rest → Type 0
IsRestOf stage rest.None = Unit {0}
IsRestOf stage (rest.Roots next end) = stage ≡ 0
IsRestOf stage (rest.Items message next over) = over ≡ false

ended-weight : (s : Scale) (t : Tree) (m : ℕ) (f : Frame) (fs : List Frame) (r : Rest) → IsRestOf f.stage r →
    f.wait ≡ None → f.stage < t.stages →
    s.ended + weight_rest s t f.stage m r + weight_stack s t s.waiting m fs
    ≡ weight_stack s t s.waiting m (onto (ended t m f r) fs) + lost_at_end s r
ended-weight s t m f fs rest.None ok w h = omega arith
ended-weight s t m f fs (rest.Roots next end) ok w h = ended-roots s t m f fs next end (nat_lt next end) refl w ok (omega arith)
ended-weight s t m f fs (rest.Items message next true) ok w h = cc
ended-weight s t m f fs (rest.Items message next false) ok w h = ended-items s t m f fs message next (nat_lt next (length message.items.items)) refl w h

-- ---- advance
-- what an answer takes, beside a row, and what it gives
abbrev pub lost_by : Scale → Rest → Next → ℕ
lost_by s r (Child c n) = s.item + s.child
lost_by s r (Row c) = s.item
lost_by s r Skip = s.item
lost_by s r End = lost_at_end s r

abbrev pub won_by : Scale → Next → ℕ
won_by s (Child c n) = s.waiting
won_by s (Row c) = 0
won_by s Skip = 0
won_by s End = 0

over-not : (k : ℕ) (r : Rest) → IsRestOf k r → is_over r ≡ false
over-not k rest.None ok = refl
over-not k (rest.Roots next end) ok = refl
over-not k (rest.Items message next over) ok = ok

nothing-ahead : (xs : List Item) → answer xs ≡ End → xs ≡ []
nothing-ahead [] e = refl
nothing-ahead (Below c m ∷ xs) e = cc
nothing-ahead (Leaf c ∷ xs) e = cc
nothing-ahead (Pass ∷ xs) e = cc

weight_from-end : (s : Scale) (t : Tree) (k m : ℕ) (c : Context) (p : ℕ) → answer (t.ahead m k c p) ≡ End → weight_from s t k m c p ≡ s.ended
unfolding weight_from
weight_from-end s t k m c p e = rw (nothing-ahead (t.ahead m k c p) e) refl

-- a top that is at work
top-weight : (s : Scale) (t : Tree) (m : ℕ) (f : Frame) (fs : List Frame) → f.wait ≡ None → IsRestOf f.stage f.rest →
    weight_stack s t s.waiting m (f ∷ fs) ≡ weight_from s t f.stage m f.context f.place + weight_rest s t f.stage m f.rest + weight_stack s t s.waiting m fs
top-weight s t m f fs w r = rw (over-not f.stage f.rest r, w) (omega arith)

-- a top that waits
wait-weight : (s : Scale) (t : Tree) (m : ℕ) (f : Frame) (fs : List Frame) (c : Context) (n : ℕ) → IsRestOf f.stage f.rest →
    weight_stack s t s.waiting m (record f { wait = Some (c, n) } ∷ fs)
    ≡ weight_from s t f.stage m f.context f.place + weight_rest s t f.stage m f.rest + weight_stack s t s.waiting m fs + s.waiting + weight s t (f.stage + 1) n c
wait-weight s t m f fs c n r = rw (over-not f.stage f.rest r) (omega arith)

-- the stack and the rows by an answer
stepped-weight : (s : Scale) (t : Tree) (m : ℕ) (rows : List Context) (f : Frame) (fs : List Frame) (a : Next) → IsTree t →
    answer_at t m f ≡ a → f.wait ≡ None → IsRestOf f.stage f.rest → f.stage < t.stages →
    weight_stack s t s.waiting m (f ∷ fs) + total s.row rows + won_by s a
    ≡ weight_stack s t s.waiting m (onto (stepped t m (after t m f) a) fs) + total s.row (rows_with rows a) + lost_by s f.rest a
stepped-weight s t m rows f fs (Child c n) law e w r h =
    let b = weight_from-next s t f.stage m f.context f.place law in
    let d = top-weight s t m f fs w r in
    let d' = wait-weight s t m (after t m f) fs c n r in
    omega (arith, rw e at b)
stepped-weight s t m rows f fs (Row c) law e w r h =
    let b = weight_from-next s t f.stage m f.context f.place law in
    let d = top-weight s t m f fs w r in
    let d' = top-weight s t m (after t m f) fs w r in
    let o = total-push s.row rows c in
    omega (arith, rw e at b)
stepped-weight s t m rows f fs Skip law e w r h =
    let b = weight_from-next s t f.stage m f.context f.place law in
    let d = top-weight s t m f fs w r in
    let d' = top-weight s t m (after t m f) fs w r in
    omega (arith, rw e at b)
stepped-weight s t m rows f fs End law e w r h =
    let b = weight_from-end s t f.stage m f.context f.place e in
    let d = top-weight s t m f fs w r in
    let d' = ended-weight s t m (after t m f) fs f.rest r w h in
    omega arith

rest-of : (enrolled : Bool) (worker : State) (stage from : ℕ) (fs : List Frame) (wait : Option (Context × ℕ)) (r : Rest) →
    StandsOn worker.shape enrolled worker.machine stage from fs wait r → is_over r ≡ false → IsRestOf stage r
rest-of enrolled worker stage from fs wait rest.None h o = tt
rest-of enrolled worker stage from fs wait (rest.Roots next end) h o = h.0
rest-of enrolled worker stage from fs wait (rest.Items message next over) h o = o

advanced-works : (s : Scale) (t : Tree) (worker : State) (f : Frame) (fs : List Frame) → TreeFits t worker.shape → IsWorker worker → Works worker f fs →
    weight_worker s t worker + won_by s (answer_at t worker.machine f)
    ≡ weight_stack s t s.waiting worker.machine (onto (stepped t worker.machine (after t worker.machine f) (answer_at t worker.machine f)) fs)
    + weight_hand s t worker.hand + total (weight_slot s t) worker.slots.messages + total s.row (rows_with worker.rows (answer_at t worker.machine f))
    + lost_by s f.rest (answer_at t worker.machine f)
advanced-works s t worker f fs fits h at =
    let st = rw at.stack at h.stack in
    let r = rest-of worker.enrolled worker f.stage (next_stage fs) fs f.wait f.rest st.0.stands at.over in
    let low = st.0.stage in
    let same = fits.same_stages in
    let step = stepped-weight s t worker.machine worker.rows f fs (answer_at t worker.machine f) fits.law refl at.wait r (omega arith) in
    rw (at.hand, at.stack) (omega arith)

advanced-weight_is : (s : Scale) (t : Tree) (worker : State) (f : Frame) (fs : List Frame) → Works worker f fs →
    weight_worker s t (advanced t worker)
    ≡ weight_stack s t s.waiting worker.machine (onto (stepped t worker.machine (after t worker.machine f) (answer_at t worker.machine f)) fs)
    + weight_hand s t worker.hand + total (weight_slot s t) worker.slots.messages + total s.row (rows_with worker.rows (answer_at t worker.machine f))
advanced-weight_is s t worker f fs at = rw (at.hand, at.stack) refl

pub advanced-weight : (s : Scale) (t : Tree) (worker : State) (f : Frame) (fs : List Frame) → TreeFits t worker.shape → IsWorker worker → Works worker f fs →
    weight_worker s t worker + won_by s (answer_at t worker.machine f)
    ≡ weight_worker s t (advanced t worker) + lost_by s f.rest (answer_at t worker.machine f)
advanced-weight s t worker f fs fits h at =
    let a = advanced-works s t worker f fs fits h at in
    let b = advanced-weight_is s t worker f fs at in
    omega arith

-- ---- claim and retire
pub claimed-weight : (s : Scale) (t : Tree) (worker : State) (first end : ℕ) → own_guard (event.Claim 0) worker ≡ None → first < end → 0 < t.stages →
    weight_worker s t worker + weight_roots s t worker.machine (end - first) first ≡ weight_worker s t (claimed t first end worker) + s.held
claimed-weight s t worker first end own lt h =
    let at = start-facts worker own in
    let a = roots-step s t worker.machine (end - first) (end - (first + 1)) first (omega arith) in
    let u = weight-unfold s t 0 worker.machine (t.root worker.machine first) h in
    rw (at.hand, at.stack) (omega arith)

-- roots that are claimed one part after the other
pub weight_roots-split : (s : Scale) (t : Tree) (m a b i : ℕ) → weight_roots s t m (a + b) i ≡ weight_roots s t m a i + weight_roots s t m b (i + a)
weight_roots-split s t m zero b i = let e : zero + b ≡ b = omega arith in let e' : i + zero ≡ i = omega arith in rw (e, e') (omega arith)
weight_roots-split s t m (suc a) b i =
    let r = weight_roots-split s t m a b (i + 1) in
    let e : suc a + b ≡ suc (a + b) = omega arith in
    let e' : i + 1 + a ≡ i + suc a = omega arith in
    rw e (omega (arith, rw e' at r))

pub retired-weight : (s : Scale) (t : Tree) (worker : State) → weight_worker s t (retired worker) ≡ weight_worker s t worker
retired-weight s t worker = refl

-- ---- the waiting child goes down, into a buffer, or stays for a credit
taken-weight : (s : Scale) (t : Tree) (cost m : ℕ) (f : Frame) (w : Context × ℕ) → f.wait ≡ Some w →
    weight_frame s t cost m f ≡ weight_frame s t s.waiting m (record f { wait = None }) + cost + weight s t (f.stage + 1) w.1 w.0
taken-weight s t cost m f w e = rw e (omega arith)

descended-waits : (s : Scale) (t : Tree) (worker : State) (f : Frame) (fs : List Frame) (w : Context × ℕ) → Waits worker f fs w → w.1 ≡ worker.machine → f.stage + 1 < t.stages →
    weight_worker s t worker ≡ weight_worker s t (descended_by worker f fs (Some w)) + s.waiting
descended-waits s t worker f fs w at near h =
    let a = taken-weight s t s.waiting worker.machine f w at.wait in
    let u = weight-unfold s t (f.stage + 1) worker.machine w.0 h in
    rw (at.hand, at.stack) (omega (arith, rw near at a))

-- the stage of a waiting child exists
child-low : (worker : State) (f : Frame) (fs : List Frame) (w : Context × ℕ) → IsWorker worker → Waits worker f fs w → f.stage + 1 < worker.shape.stages
child-low worker f fs w h at = let st = rw at.stack at h.stack in (rw at.wait at st.0.wait).0

pub descended-weight : (s : Scale) (t : Tree) (worker : State) → TreeFits t worker.shape → IsWorker worker → own_guard (event.Descend 0) worker ≡ None →
    weight_worker s t worker ≡ weight_worker s t (descended worker) + s.waiting
descended-weight s t worker fits h own =
    let at = child-facts worker (λ stage to. nat_eq to worker.machine) guard.Local own in
    let near : at.1.1.0.1 ≡ worker.machine = let e = at.1.1.1.1 in grind (arith, nat_tests) in
    let low = child-low worker at.0 at.1.0 at.1.1.0 h at.1.1.1.0 in
    let same = fits.same_stages in
    descended-waits s t worker at.0 at.1.0 at.1.1.0 at.1.1.1.0 near (omega arith)
    ∙ ap (λ v. weight_worker s t v + s.waiting) (sym (descended-is worker at.0 at.1.0 at.1.1.0 at.1.1.1.0))

added-weight : (s : Scale) (t : Tree) (worker : State) (stage to : ℕ) (c : Context) (o : Option Message) → IsWorker worker → open_at worker.slots stage to ≡ o →
    room_in o ≡ true →
    total (weight_slot s t) (added_to worker.slots stage to c o).messages ≡ total (weight_slot s t) worker.slots.messages + s.held + weight s t stage to c
added-weight s t worker stage to c None h e room = cc
added-weight s t worker stage to c (Some message) h e room =
    let at = open-facts worker.slots stage to message e in
    let within = slot-within worker.shape worker.machine worker.slots stage to h.slots at.stage_in at.to_in in
    let changed = slot-changed s t worker.slots (slot_of worker.slots.machines stage to) (Some (added c message)) within in
    let here = ap (weight_slot s t) at.here in
    let one_more = weight_held-append s t message.stage message.to message.items.items c in
    let is = h.slots.each_open (slot_of worker.slots.machines stage to) message at.here in
    let machines = h.slots.machines in
    let to_in : to < worker.shape.machines = let n = at.to_in in omega arith in
    let same : (message.stage ≡ stage) × (message.to ≡ to) =
    same_from_place message.stage message.to stage to worker.shape.machines is.whole.to to_in
    (is.place ∙ ap (λ q. slot_of q stage to) machines) in
    let weighs : weight s t message.stage message.to c ≡ weight s t stage to c = rw (same.0, same.1) refl in
    omega arith

appended-waits : (s : Scale) (t : Tree) (worker : State) (f : Frame) (fs : List Frame) (w : Context × ℕ) → IsWorker worker → Waits worker f fs w →
    has_room worker.slots (f.stage + 1) w.1 ≡ true →
    weight_worker s t worker + s.held ≡ weight_worker s t (appended_by worker f fs (Some w)) + s.waiting
appended-waits s t worker f fs w h at room =
    let a = taken-weight s t s.waiting worker.machine f w at.wait in
    let b = added-weight s t worker (f.stage + 1) w.1 w.0 (open_at worker.slots (f.stage + 1) w.1) h refl room in
    rw (at.hand, at.stack) (omega arith)

pub appended-weight : (s : Scale) (t : Tree) (worker : State) → IsWorker worker → own_guard (event.Append 0) worker ≡ None →
    weight_worker s t worker + s.held ≡ weight_worker s t (appended worker) + s.waiting
appended-weight s t worker h own =
    let at = child-facts worker (has_room worker.slots) guard.Room own in
    appended-waits s t worker at.0 at.1.0 at.1.1.0 h at.1.1.1.0 at.1.1.1.1
    ∙ ap (λ v. weight_worker s t v + s.waiting) (sym (appended-is worker at.0 at.1.0 at.1.1.0 at.1.1.1.0))

charged-waits : (s : Scale) (t : Tree) (worker : State) (f : Frame) (fs : List Frame) (w : Context × ℕ) (k n : ℕ) → Waits worker f fs w →
    weight_worker s t worker + s.charged ≡ weight_worker s t (record worker { hand = Charged k n }) + s.waiting
charged-waits s t worker f fs w k n at =
    let a = taken-weight s t s.waiting worker.machine f w at.wait in
    let b = taken-weight s t s.charged worker.machine f w at.wait in
    rw (at.hand, at.stack) (omega arith)

pub charged-weight : (s : Scale) (t : Tree) (worker : State) (child : ℕ × ℕ) → own_guard (event.Charge 0) worker ≡ None → waiting worker.stack ≡ Some child →
    weight_worker s t worker + s.charged ≡ weight_worker s t (charged worker) + s.waiting
charged-weight s t worker child own e =
    let at = child-facts worker (λ stage to. not (is_open worker.slots stage to)) guard.Open own in
    charged-waits s t worker at.0 at.1.0 at.1.1.0 child.0 child.1 at.1.1.1.0
    ∙ ap (λ v. weight_worker s t v + s.waiting) (sym (charged-is worker child e))

fetched-charges : (s : Scale) (t : Tree) (worker : State) (batch : Batch) (stage to : ℕ) (f : Frame) (fs : List Frame) (w : Context × ℕ) → IsWorker worker →
    Charges worker stage to f fs w → open_at worker.slots stage to ≡ None → stage < worker.slots.stages → to < worker.slots.machines → batch.items ≡ [] →
    weight_worker s t worker + s.opened + s.held ≡ weight_worker s t (fetched_for worker stage to batch f fs (Some w)) + s.charged
fetched-charges s t worker batch stage to f fs w h at none k n empty =
    let within = slot-within worker.shape worker.machine worker.slots stage to h.slots k n in
    let changed = slot-changed s t worker.slots (slot_of worker.slots.machines stage to) (Some (opened_with worker stage to batch w.0)) within in
    let here = ap (weight_slot s t) (none-facts worker.slots stage to none k n) in
    let one_more = weight_held-append s t stage to batch.items w.0 in
    let nothing = ap (weight_held s t stage to) empty in
    let a = taken-weight s t s.charged worker.machine f w at.wait in
    let same = ap (λ j. weight s t j w.1 w.0) at.same_stage ∙ ap (λ q. weight s t stage q w.0) at.same_to in
    rw (at.hand, at.stack) (omega arith)

pub fetched-weight : (s : Scale) (t : Tree) (worker : State) (batch : Batch) (stage to : ℕ) → IsWorker worker → worker.hand ≡ Charged stage to → batch.items ≡ [] →
    weight_worker s t worker + s.opened + s.held ≡ weight_worker s t (fetched batch worker) + s.charged
fetched-weight s t worker batch stage to h e empty =
    let hand = rw e at h.hand in
    let at = charges-facts worker stage to e hand.0 in
    let exists = child-exists worker stage to at.0 at.1.0 at.1.1.0 h at.1.1.1 in
    fetched-charges s t worker batch stage to at.0 at.1.0 at.1.1.0 h at.1.1.1 hand.1 exists.0 exists.1 empty
    ∙ ap (λ v. weight_worker s t v + s.charged) (sym (fetched-is worker batch stage to at.0 at.1.0 at.1.1.0 at.1.1.1))

-- ---- messages
posted-open : (s : Scale) (t : Tree) (worker : State) (stage to : ℕ) (message : Message) → IsWorker worker → worker.hand ≡ Free → open_at worker.slots stage to ≡ Some message →
    weight_worker s t worker + s.posted ≡ weight_worker s t (posted_by worker stage to (Some message)) + s.opened
posted-open s t worker stage to message h hand e =
    let at = open-facts worker.slots stage to message e in
    let within = slot-within worker.shape worker.machine worker.slots stage to h.slots at.stage_in at.to_in in
    let changed = slot-changed s t worker.slots (slot_of worker.slots.machines stage to) None within in
    let here = ap (weight_slot s t) at.here in
    rw hand (omega arith)

pub posted-weight : (s : Scale) (t : Tree) (worker : State) (stage to : ℕ) (message : Message) → IsWorker worker → worker.hand ≡ Free → open_at worker.slots stage to ≡ Some message →
    weight_worker s t worker + s.posted ≡ weight_worker s t (posted stage to worker) + s.opened
posted-weight s t worker stage to message h hand e =
    posted-open s t worker stage to message h hand e ∙ ap (λ v. weight_worker s t v + s.opened) (sym (posted-is worker stage to message e))

-- the message in hand is gone
pub pushed-weight : (s : Scale) (t : Tree) (worker : State) (message : Message) → worker.hand ≡ Posted message →
    weight_worker s t worker ≡ weight_worker s t (freed worker) + s.posted + weight_message s t message
pushed-weight s t worker message e = rw e (omega arith)

pub popped-weight : (s : Scale) (t : Tree) (worker : State) (message : Message) → worker.hand ≡ Free →
    weight_worker s t (popped message worker) ≡ weight_worker s t worker + s.popped + weight_message s t message
popped-weight s t worker message e = rw e (omega arith)

picked-frame : (s : Scale) (t : Tree) (m : ℕ) (message : Message) (contexts : List Context) (fs : List Frame) → message.items.items ≡ contexts → 0 < length contexts → message.stage < t.stages →
    weight_stack s t s.waiting m fs + weight_held s t message.stage m contexts + s.framed ≡ weight_stack s t s.waiting m (message_frame message contexts fs) + s.held
picked-frame s t m message [] fs e h k = absurd (omega arith)
picked-frame s t m message (c ∷ cs) fs e h k =
    let u = weight-unfold s t message.stage m c k in
    rw e (omega arith)

picked-popped : (s : Scale) (t : Tree) (worker : State) (message : Message) → worker.hand ≡ Popped message → message.to ≡ worker.machine → 0 < length message.items.items → message.stage < t.stages →
    weight_worker s t worker + s.framed ≡ weight_worker s t (picked_by worker (Popped message)) + s.popped + s.held
picked-popped s t worker message e to h k =
    let a = picked-frame s t worker.machine message message.items.items worker.stack refl h k in
    let m = ap (λ n. weight_held s t message.stage n message.items.items) to in
    rw e (omega arith)

pub picked-weight : (s : Scale) (t : Tree) (worker : State) (message : Message) → TreeFits t worker.shape → IsWorker worker → worker.hand ≡ Popped message →
    weight_worker s t worker + s.framed ≡ weight_worker s t (picked worker) + s.popped + s.held
picked-weight s t worker message fits h e =
    let hand = rw e at h.hand in
    let low = hand.2.stage in
    let same = fits.same_stages in
    picked-popped s t worker message e hand.0 hand.2.some (omega arith)
    ∙ ap (λ v. weight_worker s t v + s.popped + s.held) (sym (picked-is worker message e))

-- ---- the end of a message
restored-ends : (s : Scale) (t : Tree) (worker : State) (f : Frame) (fs : List Frame) (message : Message) (next : ℕ) → Ends worker f fs message next → f.wait ≡ None →
    weight_worker s t worker + s.emptied ≡ weight_worker s t (restored_by worker fs (rest.Items message next true)) + s.framed
restored-ends s t worker f fs message next at w = rw (at.hand, at.stack, at.rest, w) (omega arith)

pub restored-weight : (s : Scale) (t : Tree) (worker : State) (f : Frame) (fs : List Frame) (message : Message) (next : ℕ) → IsWorker worker → Ends worker f fs message next →
    weight_worker s t worker + s.emptied ≡ weight_worker s t (restored worker) + s.framed
restored-weight s t worker f fs message next h at =
    let st = rw at.stack at h.stack in
    let stands = rw at.rest at st.0.stands in
    restored-ends s t worker f fs message next at (stands.through.settled refl)
    ∙ ap (λ v. weight_worker s t v + s.framed) (sym (restored-is worker f fs message next at))

pub discharged-weight : (s : Scale) (t : Tree) (worker : State) (from stage : ℕ) → worker.hand ≡ Emptied from stage →
    weight_worker s t worker ≡ weight_worker s t (freed worker) + s.emptied
discharged-weight s t worker from stage e = rw e (omega arith)
