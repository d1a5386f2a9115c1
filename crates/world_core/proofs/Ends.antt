-- What is left where stages are closed: nothing of them. So the rows of a finished world are all that it owes.
use Rattle.std.proofs.Common.{◌≡◌, ◌⊎◌, inl, inr, ℕ, ◌+◌, ◌-◌, ◌*◌, ◌/◌, ◌%◌, ◌<◌, ◌≤◌, Bool, true, false, cond, ◌&&◌, List, [], ◌∷◌, ◌++◌, length, get_or, Option, Some, None, refl, sym, ap, subst, ◌∙◌, arith, zero, suc}
use Rattle.std.specs.Prelude.{slice_get, slice_index_or, nat_lt}
use Rattle.std.proofs.lemmas.Bool.{cases_lt}
use Rattle.std.proofs.lemmas.Bool.Decides.{nat_tests}
use Rattle.std.proofs.lemmas.Option.{none-some}
use Rattle.std.proofs.Math.Nat.{mul-div_cancel, mul-le-mul_left, mul_comm}
use Rattle.match_context.specs.declared.context.Context.{Context}
use Rattle.match_context.specs.declared.frame.Frame.{Frame}
use Rattle.match_context.specs.declared.message.Message.{Message}
use Rattle.match_context.specs.Bags.{total}
use Rattle.match_context.specs.Tree.{Tree}
use Rattle.match_context.specs.Weight.{rows_scale}
use Rattle.match_context.proofs.Totals.{total-at, total-append}
use Rattle.fabric.specs.Calls.{IsMessageOf}
use Rattle.fabric.specs.Shared.{Shared, IsUnit, machine_of, used_at, flying_at, cursor_at, roots_at, inbox_place, inbox_at}
use Rattle.dfs_worker.specs.declared.hand.Hand.{Hand}
use Rattle.dfs_worker.specs.declared.hand.Hand.TheVariants.{Free, Charged, Posted, Popped, Emptied}
use Rattle.dfs_worker.specs.Census.{Census, count, credits_of, flying_of, of_slot, of_hand, one, is_word}
use Rattle.dfs_worker.specs.Slots.{open_at, slot_of}
use Rattle.dfs_worker.specs.Sound.{IsStack, IsHand}
use Rattle.dfs_worker.specs.State.{State, waiting}
use Rattle.dfs_worker.specs.Weight.{weight_roots, weight_slot, weight_worker}
use Rattle.dfs_worker.proofs.Places.{open-facts}
use Rattle.world_core.specs.Owed.{weight_inbox, weight_unclaimed, total_below, owed}
use Rattle.world_core.specs.Reach.{CanReach, ByWorker, ByRoot, ByFrame, ByBuffer, ByMessage, ByHand, HandReaches}
use Rattle.world_core.specs.Rows.{all_rows, IsFinished}
use Rattle.world_core.specs.Sound.{Sound, queued}
use Rattle.world_core.specs.World.{World}
use Rattle.world_core.proofs.Bodies.{open-for, word-self}
use Rattle.world_core.proofs.Inboxes.{inbox-is}
use Rattle.world_core.proofs.Parts.{machine-in, sound-part}
use Rattle.world_core.proofs.Past.{AreLater, enrolled-first, frames-later, child-later}
use Rattle.world_core.proofs.Travels.{shape-of, message-unit}

-- ---- lists
pub get-within : {A : Type 0} (xs : List A) (i : ℕ) → i < length xs → (x : A) × (slice_get xs i ≡ Some x)
get-within [] i low = absurd (omega arith)
get-within (x ∷ xs) zero low = (x, refl)
get-within (x ∷ xs) (suc i) low = get-within xs i (omega arith)

pub slot-get : {A : Type 0} (xs : List (Option A)) (i : ℕ) (x : A) → get_or xs i None ≡ Some x → slice_get xs i ≡ Some (Some x)
slot-get [] i x e = absurd (none-some x e)
slot-get (y ∷ ys) zero x e = ap Some e
slot-get (y ∷ ys) (suc i) x e = slot-get ys i x e

pub get-slot : {A : Type 0} (xs : List (Option A)) (i : ℕ) (x : A) → slice_get xs i ≡ Some (Some x) → get_or xs i None ≡ Some x
get-slot [] i x e = absurd (none-some (Some x) e)
get-slot (y ∷ ys) zero x e = cc
get-slot (y ∷ ys) (suc i) x e = get-slot ys i x e

pub total-none : {A : Type 0} (f : A → ℕ) (xs : List A) → ((i : ℕ) (x : A) → slice_get xs i ≡ Some x → f x ≡ 0) → total f xs ≡ 0
total-none f [] none = refl
total-none f (x ∷ xs) none = let a = none 0 x refl in let b = total-none f xs (λ i y e. none (suc i) y e) in omega arith

below-none : (n : ℕ) (f : ℕ → ℕ) → ((k : ℕ) → k < n → f k ≡ 0) → total_below n f ≡ 0
below-none zero f none = refl
below-none (suc n) f none = let a = none n (omega arith) in let b = below-none n f (λ k low. none k (omega arith)) in omega arith

-- ---- what is held or on its way is of a later stage
held-later : (w : World) (i : ℕ) (v : State) (from stage to : ℕ) → Sound w → slice_get w.workers i ≡ Some v → IsUnit w.shared from stage to → 0 < count (credits_of from stage to) v → w.shared.closed ≤ stage
held-later w i v from stage to sound at unit some =
    let all = (sound-part w i v sound at).credits from stage to unit in
    let none : stage < w.shared.closed → used_at w.shared from stage to ≡ 0 = sound.closed.used from stage to unit in
    elim (cases_lt stage w.shared.closed) [ inl early ↦ absurd (let e = none early in omega arith) | inr late ↦ late ]

flying-later : (w : World) (from stage to : ℕ) → Sound w → IsUnit w.shared from stage to → 0 < flying_at w.shared from stage to → w.shared.closed ≤ stage
flying-later w from stage to sound unit some =
    let all = sound.used from stage to unit in
    let none : stage < w.shared.closed → used_at w.shared from stage to ≡ 0 = sound.closed.used from stage to unit in
    elim (cases_lt stage w.shared.closed) [ inl early ↦ absurd (let e = none early in omega arith) | inr late ↦ late ]

one-word : (m k n : ℕ) → one (is_word m k n m k n) ≡ 1
one-word m k n = ap one (word-self m k n)

slot-later : (w : World) (i : ℕ) (v : State) (place : ℕ) (b : Message) → Sound w → slice_get w.workers i ≡ Some v → slice_get v.slots.messages place ≡ Some (Some b) → w.shared.closed ≤ b.stage
slot-later w i v place b sound at e =
    let is = (sound.own i v at).slots.each_open place b (get-slot v.slots.messages place b e) in
    let unit = message-unit w v.shape b (shape-of w i v sound at) is.whole in
    let mine = total-at (of_slot (credits_of b.from b.stage b.to).opened) v.slots.messages place (Some b) e in
    let self = one-word b.from b.stage b.to in
    held-later w i v b.from b.stage b.to sound at unit (omega arith)

-- a message in the hand of a worker
message-flies : (w : World) (i : ℕ) (v : State) (b : Message) → Sound w → slice_get w.workers i ≡ Some v → IsMessageOf v.shape b → of_hand (flying_of b.from b.stage b.to) v.machine v.hand ≡ one (is_word b.from b.stage b.to b.from b.stage b.to) →
    w.shared.closed ≤ b.stage
message-flies w i v b sound at is held =
    let unit = message-unit w v.shape b (shape-of w i v sound at) is in
    let all = sound.flying b.from b.stage b.to unit in
    let mine = total-at (count (flying_of b.from b.stage b.to)) w.workers i v at in
    let self = one-word b.from b.stage b.to in
    flying-later w b.from b.stage b.to sound unit (omega arith)

hand-later : (w : World) (i : ℕ) (v : State) (stage : ℕ) (hand : Hand) → Sound w → slice_get w.workers i ≡ Some v → v.hand ≡ hand → HandReaches stage hand → w.shared.closed ≤ stage
hand-later w i v stage Free sound at e reaches = absurd reaches
hand-later w i v stage (Charged k n) sound at e reaches =
    let held = rw e at (sound.own i v at).hand in
    let later = child-later w i v k n sound at held.0 in
    omega arith
hand-later w i v stage (Posted b) sound at e reaches =
    let held = rw e at (sound.own i v at).hand in
    let later = message-flies w i v b sound at held.1 (ap (of_hand (flying_of b.from b.stage b.to) v.machine) e) in
    omega arith
hand-later w i v stage (Popped b) sound at e reaches =
    let held = rw e at (sound.own i v at).hand in
    let later = message-flies w i v b sound at held.2 (ap (of_hand (flying_of b.from b.stage b.to) v.machine) e) in
    omega arith
hand-later w i v stage (Emptied m k) sound at e reaches =
    let held = rw e at (sound.own i v at).hand in
    let x = shape-of w i v sound at in
    let machines = ap (λ y. y.machines) x in
    let stages = ap (λ y. y.stages) x in
    let here = machine-in w i v sound at in
    let h0 = held.0 in let h1 = held.1 in let h2 = held.2 in
    let unit : IsUnit w.shared m k v.machine = (omega arith, omega arith, omega arith, here) in
    let mine : of_hand (credits_of m k v.machine) v.machine v.hand ≡ one (is_word m k v.machine m k v.machine) = ap (of_hand (credits_of m k v.machine) v.machine) e in
    let self = one-word m k v.machine in
    let later = held-later w i v m k v.machine sound at unit (omega arith) in
    omega arith

message-later : (w : World) (machine stage j : ℕ) (ms : List Message) (b : Message) → Sound w → stage < w.shared.shape.stages → slice_get w.shared.inboxes (inbox_place w.shared machine stage) ≡ Some ms → slice_get ms j ≡ Some b →
    (w.shared.closed ≤ b.stage) × (b.stage ≡ stage)
message-later w machine stage j ms b sound low inside at =
    let is = sound.messages machine stage j ms b low inside at in
    let unit = message-unit w w.shared.shape b refl is.0 in
    let all = sound.flying b.from b.stage b.to unit in
    let here = total-at (queued b.from b.stage b.to) w.shared.inboxes (inbox_place w.shared machine stage) ms inside in
    let mine = total-at (λ (x : Message). one (is_word b.from b.stage b.to x.from x.stage x.to)) ms j b at in
    let self = one-word b.from b.stage b.to in
    (flying-later w b.from b.stage b.to sound unit (omega arith), is.2)

-- ---- roots
-- each machine has a worker
pub machine-worker : (w : World) (m : ℕ) → Sound w → m < w.shared.shape.machines → (i : ℕ) × ((v : State) × ((slice_get w.workers i ≡ Some v) × (v.machine ≡ m)))
machine-worker w m sound low =
    let n = w.shared.shape.workers in
    let some = sound.tables.shape.some_worker in
    let size = sound.number_of_workers in
    let row = mul-le-mul_left n (let e : m + 1 ≤ w.shared.shape.machines = omega arith in e) in
    let got = get-within w.workers (m * n) (omega arith) in
    let place = sound.placed (m * n) got.0 got.1 in
    (m * n, (got.0, (got.1, place.machine ∙ mul-div_cancel m some)))

pub is-false : (b : Bool) → (b ≡ true → ⊥) → b ≡ false
is-false true never = absurd (never refl)
is-false false never = refl

pub roots-claimed : (w : World) (m : ℕ) → Sound w → 0 < w.shared.closed → m < w.shared.shape.machines → cursor_at w.shared m ≡ roots_at w.shared m
roots-claimed w m sound some low =
    let x = machine-worker w m sound low in
    let v = x.1.0 in
    let at = x.1.1.0 in
    let here = machine-in w x.0 v sound at in
    let left = is-false v.enrolled (λ e. let first = enrolled-first w.shared v (sound-part w x.0 v sound at) sound.closed here e in omega arith) in
    subst (λ k. cursor_at w.shared k ≡ roots_at w.shared k) x.1.1.1 (sound.retired x.0 v at left)

-- ---- a closed stage can't be reached
frame-later : (closed : ℕ) (fs : List Frame) (i : ℕ) (f : Frame) → AreLater closed fs → slice_get fs i ≡ Some f → closed ≤ f.stage
frame-later closed [] i f later e = absurd (none-some f e)
frame-later closed (g ∷ gs) zero f later e = let same : g ≡ f = cc in let stage = ap (λ (x : Frame). x.stage) same in let a = later.0 in omega arith
frame-later closed (g ∷ gs) (suc i) f later e = frame-later closed gs i f later.1 e

pub closed-none : (w : World) (stage : ℕ) → Sound w → stage < w.shared.closed → CanReach w stage → ⊥
closed-none w stage sound low (ByWorker i v at e) =
    let first = enrolled-first w.shared v (sound-part w i v sound at) sound.closed (machine-in w i v sound at) e in omega arith
closed-none w stage sound low (ByRoot m here less) = let e = roots-claimed w m sound (omega arith) here in omega arith
closed-none w stage sound low (ByFrame i j v f at is reaches) = let later = frame-later w.shared.closed v.stack j f (frames-later w i v sound at) is in omega arith
closed-none w stage sound low (ByBuffer i k n v b at is reaches) =
    let same = (open-for w.shared v k n b (sound.own i v at) is).same_stage in
    let later = slot-later w i v (slot_of v.slots.machines k n) b sound at (slot-get v.slots.messages (slot_of v.slots.machines k n) b (open-facts v.slots k n b is).here) in
    omega arith
closed-none w stage sound low (ByMessage m k j ms b is at reaches) =
    let inbox = inbox-is w.shared m k ms is in
    let later = message-later w m k j ms b sound inbox.stage inbox.at at in
    let a = later.0 in let e = later.1 in
    omega arith
closed-none w stage sound low (ByHand i v at reaches) = let later = hand-later w i v stage v.hand sound at refl reaches in omega arith

-- ---- a finished world
last-stack : (w : World) (i : ℕ) (v : State) (fs : List Frame) → Sound w → IsFinished w → slice_get w.workers i ≡ Some v → AreLater w.shared.closed fs → IsStack v.shape v.enrolled v.machine fs → fs ≡ []
last-stack w i v [] sound finished at later is = refl
last-stack w i v (f ∷ fs) sound finished at later is =
    let stages = ap (λ x. x.stages) (shape-of w i v sound at) in
    let low = is.0.stage in
    let late = later.0 in
    absurd (omega arith)

last-hand : (w : World) (i : ℕ) (v : State) (hand : Hand) → Sound w → IsFinished w → slice_get w.workers i ≡ Some v → v.stack ≡ [] → v.hand ≡ hand → IsHand v hand → hand ≡ Free
last-hand w i v Free sound finished at empty e is = refl
last-hand w i v (Charged k n) sound finished at empty e is = absurd (none-some (k, n) (sym (ap waiting empty) ∙ is.0))
last-hand w i v (Posted b) sound finished at empty e is =
    let stages = ap (λ x. x.stages) (shape-of w i v sound at) in
    let low = is.1.stage in
    let late = hand-later w i v b.stage (Posted b) sound at e (omega arith) in
    absurd (omega arith)
last-hand w i v (Popped b) sound finished at empty e is =
    let stages = ap (λ x. x.stages) (shape-of w i v sound at) in
    let low = is.2.stage in
    let late = hand-later w i v b.stage (Popped b) sound at e (omega arith) in
    absurd (omega arith)
last-hand w i v (Emptied m k) sound finished at empty e is =
    let stages = ap (λ x. x.stages) (shape-of w i v sound at) in
    let low = is.2 in
    let late = hand-later w i v k (Emptied m k) sound at e (omega arith) in
    absurd (omega arith)

last-slot : (h : Context → ℕ) (t : Tree) (w : World) (i : ℕ) (v : State) (place : ℕ) (o : Option Message) → Sound w → IsFinished w → slice_get w.workers i ≡ Some v → slice_get v.slots.messages place ≡ Some o → weight_slot (rows_scale h) t o ≡ 0
last-slot h t w i v place None sound finished at e = refl
last-slot h t w i v place (Some b) sound finished at e =
    let stages = ap (λ x. x.stages) (shape-of w i v sound at) in
    let low = ((sound.own i v at).slots.each_open place b (get-slot v.slots.messages place b e)).whole.stage in
    let late = slot-later w i v place b sound at e in
    absurd (omega arith)

last-worker : (h : Context → ℕ) (t : Tree) (w : World) (i : ℕ) (v : State) → Sound w → IsFinished w → slice_get w.workers i ≡ Some v → weight_worker (rows_scale h) t v ≡ total h v.rows
last-worker h t w i v sound finished at =
    let own = sound.own i v at in
    let empty = last-stack w i v v.stack sound finished at (frames-later w i v sound at) own.stack in
    let free = last-hand w i v v.hand sound finished at empty refl own.hand in
    let slots = total-none (weight_slot (rows_scale h) t) v.slots.messages (λ place o e. last-slot h t w i v place o sound finished at e) in
    rw (empty, free, slots) (omega arith)

last-inbox : (h : Context → ℕ) (t : Tree) (w : World) (place : ℕ) (ms : List Message) → Sound w → IsFinished w → slice_get w.shared.inboxes place ≡ Some ms → weight_inbox (rows_scale h) t ms ≡ 0
last-inbox h t w place [] sound finished at = refl
last-inbox h t w place (b ∷ bs) sound finished at =
    let k = w.shared.shape.stages in
    let some = sound.tables.shape.some_stage in
    let whole : place / k * k + place % k ≡ place = omega arith in
    let low : place % k < k = omega arith in
    let later = message-later w (place / k) (place % k) 0 (b ∷ bs) b sound low (ap (slice_get w.shared.inboxes) whole ∙ at) refl in
    let a = later.0 in let e = later.1 in
    absurd (omega arith)

total-rows : (h : Context → ℕ) (f : State → ℕ) (vs : List State) → ((i : ℕ) (v : State) → slice_get vs i ≡ Some v → f v ≡ total h v.rows) → total f vs ≡ total h (all_rows vs)
total-rows h f [] same = refl
total-rows h f (v ∷ vs) same =
    let a = same 0 v refl in
    let b = total-rows h f vs (λ i u e. same (suc i) u e) in
    let c = total-append h v.rows (all_rows vs) in
    omega arith

no-roots : (h : Context → ℕ) (t : Tree) (m left place : ℕ) → left ≡ 0 → weight_roots (rows_scale h) t m left place ≡ 0
no-roots h t m left place e = ap (λ n. weight_roots (rows_scale h) t m n place) e

pub finished-owes : (h : Context → ℕ) (t : Tree) (w : World) → Sound w → IsFinished w → owed h t w ≡ total h (all_rows w.workers)
finished-owes h t w sound finished =
    let some = sound.tables.shape.some_stage in
    let workers = total-rows h (weight_worker (rows_scale h) t) w.workers (λ i v at. last-worker h t w i v sound finished at) in
    let inboxes = total-none (weight_inbox (rows_scale h) t) w.shared.inboxes (λ place ms at. last-inbox h t w place ms sound finished at) in
    let roots = below-none w.shared.shape.machines (weight_unclaimed (rows_scale h) t w.shared)
    (λ m low. no-roots h t m (roots_at w.shared m - cursor_at w.shared m) (cursor_at w.shared m) (let e = roots-claimed w m sound (omega arith) low in omega arith)) in
    omega arith
