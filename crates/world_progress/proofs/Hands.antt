-- A hand that isn't free has its step: the pool has a buffer for the credit in hand, and the inbox has room for the message.
use Rattle.std.proofs.Common.{◌≡◌, ◌≢◌, ◌⊎◌, inl, inr, ℕ, ◌+◌, ◌-◌, ◌*◌, ◌/◌, ◌%◌, ◌<◌, ◌≤◌, Bool, true, false, cond, ◌&&◌, eqb, ltb, min, max, List, [], ◌∷◌, length, get_or, Option, Some, None, refl, sym, ap, subst, ◌∙◌, arith, zero, suc}
use Rattle.std.specs.Prelude.{slice_get, nat_lt}
use Rattle.std.proofs.lemmas.Bool.{eq-eqb}
use Rattle.std.proofs.lemmas.Bool.Decides.{nat_tests}
use Rattle.std.proofs.lemmas.Nat.{mul-add-lt}
use Rattle.std.proofs.Math.Nat.{mul_comm}
use Rattle.adfs_base.specs.Shape.{Extents, limit_of, pool_of}
use Rattle.match_context.specs.Bags.{total}
use Rattle.match_context.specs.declared.frame.Frame.{Frame}
use Rattle.match_context.specs.declared.frame.Rest.{Rest}
use Rattle.match_context.specs.declared.frame.Rest.TheVariants as rest
use Rattle.match_context.specs.declared.message.Message.{Message}
use Rattle.match_context.proofs.Totals.{total-at}
use Rattle.fabric.specs.Calls.{IsMessageOf, can_fetch, can_push, can_pick, has_space}
use Rattle.fabric.specs.Shared.{Shared, IsUnit, used_at, flying_at, pool_at, inbox_place, inbox_at, room_of}
use Rattle.dfs_worker.specs.declared.hand.Hand.{Hand}
use Rattle.dfs_worker.specs.declared.hand.Hand.TheVariants.{Free, Charged, Posted, Popped, Emptied}
use Rattle.dfs_worker.specs.Census.{Census, count, credits_of, flying_of, buffers_of, of_slot, of_rest, of_stack, of_hand, one, is_word}
use Rattle.dfs_worker.specs.Sound.{IsStack, IsWorker, StandsOn}
use Rattle.dfs_worker.specs.State.{State, next_stage}
use Rattle.dfs_worker.proofs.Counts.{child-exists}
use Rattle.dfs_worker.proofs.Facts.{charges-facts}
use Rattle.world_core.specs.Owed.{total_below}
use Rattle.world_core.specs.Sound.{Sound, queued, homes_in}
use Rattle.world_core.specs.World.{World}
use Rattle.world_core.proofs.Bodies.{word-self}
use Rattle.world_core.proofs.Ends.{get-slot, get-within}
use Rattle.world_core.proofs.Parts.{machine-in}
use Rattle.world_core.proofs.Past.{child-later}
use Rattle.world_core.proofs.Travels.{shape-of, message-unit}
use Rattle.world_core.proofs.Weighs.{below-same}
use Rattle.world_progress.proofs.Sums.{below-const, below-add, below-le, below-total, below-limit, below-limit_to, total-alike_at, total-less_at, total-add, total-length, over_words, words-zero, words-add, words-le, words-same, words-total, words-one, senders-one}

-- ---- what a worker holds, over all words of a sender
-- the sum over the words of a world
abbrev words : World → (ℕ → ℕ → ℕ) → ℕ
words w f = over_words (w.shared.shape.stages - 1) w.shared.shape.machines f

message-words : (w : World) (m : ℕ) (b : Message) → 0 < b.stage → b.stage < w.shared.shape.stages → b.to < w.shared.shape.machines → b.items.home ≡ b.from →
    words w (λ k n. one (is_word m k n b.from b.stage b.to)) ≡ one (eqb b.items.home m)
message-words w m b some low here home =
    words-one (w.shared.shape.stages - 1) w.shared.shape.machines m b.from b.stage b.to some (omega arith) here ∙ ap (λ a. one (eqb a m)) (sym home)

slots-words : (w : World) (i m : ℕ) (v : State) → Sound w → slice_get w.workers i ≡ Some v →
    words w (λ k n. total (of_slot (credits_of m k n).opened) v.slots.messages) ≡ total (of_slot (buffers_of m).opened) v.slots.messages
slots-words w i m v sound at =
    words-total (w.shared.shape.stages - 1) w.shared.shape.machines (λ k n. of_slot (credits_of m k n).opened) v.slots.messages
    ∙ total-alike_at (λ o. words w (λ k n. of_slot (credits_of m k n).opened o)) (of_slot (buffers_of m).opened) v.slots.messages (λ place o e. each place o e)
  where
    each : (place : ℕ) (o : Option Message) → slice_get v.slots.messages place ≡ Some o → words w (λ k n. of_slot (credits_of m k n).opened o) ≡ of_slot (buffers_of m).opened o
    each place None e = words-zero (w.shared.shape.stages - 1) w.shared.shape.machines
    each place (Some b) e =
        let is = (sound.own i v at).slots.each_open place b (get-slot v.slots.messages place b e) in
        let shape = shape-of w i v sound at in
        let stages = ap (λ x. x.stages) shape in
        let machines = ap (λ x. x.machines) shape in
        let low = is.whole.stage in
        let here = is.whole.to in
        message-words w m b is.whole.some_stage (omega arith) (omega arith) is.whole.home

stack-words : (w : World) (m machine : ℕ) (shape : Extents) (enrolled : Bool) (fs : List Frame) → shape ≡ w.shared.shape → IsStack shape enrolled machine fs →
    words w (λ k n. of_stack (credits_of m k n).framed fs) ≡ of_stack (buffers_of m).framed fs
stack-words w m machine shape enrolled [] same is = words-zero (w.shared.shape.stages - 1) w.shared.shape.machines
stack-words w m machine shape enrolled (f ∷ fs) same is =
    let a = words-add (w.shared.shape.stages - 1) w.shared.shape.machines (λ k n. of_rest (credits_of m k n).framed f.rest) (λ k n. of_stack (credits_of m k n).framed fs) in
    let b = stack-words w m machine shape enrolled fs same is.1 in
    let c = first f.rest is.0.stands in
    omega arith
  where
    first : (r : Rest) → StandsOn shape enrolled machine f.stage (next_stage fs) fs f.wait r → words w (λ k n. of_rest (credits_of m k n).framed r) ≡ of_rest (buffers_of m).framed r
    first rest.None stands = words-zero (w.shared.shape.stages - 1) w.shared.shape.machines
    first (rest.Roots next end) stands = words-zero (w.shared.shape.stages - 1) w.shared.shape.machines
    first (rest.Items b next over) stands =
        let p = stands.packet in
        let stages = ap (λ x. x.stages) same in
        let machines = ap (λ x. x.machines) same in
        let low = p.stage in
        let here = p.to in
        message-words w m b p.some_stage (omega arith) (omega arith) p.home

-- a credit whose buffer isn't out yet
abbrev charges : ℕ → ℕ → Hand → ℕ
charges m machine Free = 0
charges m machine (Charged k n) = one (eqb machine m)
charges m machine (Posted b) = 0
charges m machine (Popped b) = 0
charges m machine (Emptied from k) = 0

hand-words : (w : World) (i m : ℕ) (v : State) (hand : Hand) → Sound w → slice_get w.workers i ≡ Some v → v.hand ≡ hand →
    of_hand (buffers_of m) v.machine hand + charges m v.machine hand ≤ words w (λ k n. of_hand (credits_of m k n) v.machine hand) + words w (λ k n. of_hand (flying_of m k n) v.machine hand)
hand-words w i m v Free sound at e = omega arith
hand-words w i m v (Charged k n) sound at e =
    let own = sound.own i v at in
    let held = rw e at own.hand in
    let facts = charges-facts v k n e held.0 in
    let exists = child-exists v k n facts.0 facts.1.0 facts.1.1.0 own facts.1.1.1 in
    let later = child-later w i v k n sound at held.0 in
    let shape = shape-of w i v sound at in
    let stages = own.slots.stages ∙ ap (λ x. x.stages) shape in
    let machines = own.slots.machines ∙ ap (λ x. x.machines) shape in
    let low = exists.0 in
    let here = exists.1 in
    let all = words-one (w.shared.shape.stages - 1) w.shared.shape.machines m v.machine k n (omega arith) (omega arith) (omega arith) in
    omega arith
hand-words w i m v (Posted b) sound at e =
    let held = rw e at (sound.own i v at).hand in
    let is = held.1 in
    let shape = shape-of w i v sound at in
    let stages = ap (λ x. x.stages) shape in
    let machines = ap (λ x. x.machines) shape in
    let low = is.stage in
    let here = is.to in
    let all = message-words w m b is.some_stage (omega arith) (omega arith) is.home in
    omega arith
hand-words w i m v (Popped b) sound at e =
    let held = rw e at (sound.own i v at).hand in
    let is = held.2 in
    let shape = shape-of w i v sound at in
    let stages = ap (λ x. x.stages) shape in
    let machines = ap (λ x. x.machines) shape in
    let low = is.stage in
    let here = is.to in
    let all = message-words w m b is.some_stage (omega arith) (omega arith) is.home in
    omega arith
hand-words w i m v (Emptied from k) sound at e = omega arith

-- each buffer of a machine that a worker holds has a credit of its own
worker-words : (w : World) (i m : ℕ) (v : State) → Sound w → slice_get w.workers i ≡ Some v →
    count (buffers_of m) v + charges m v.machine v.hand ≤ words w (λ k n. count (credits_of m k n) v) + words w (λ k n. count (flying_of m k n) v)
worker-words w i m v sound at =
    let stages = w.shared.shape.stages - 1 in
    let machines = w.shared.shape.machines in
    let slots = slots-words w i m v sound at in
    let hand = hand-words w i m v v.hand sound at refl in
    let stack = stack-words w m v.machine v.shape v.enrolled v.stack (shape-of w i v sound at) (sound.own i v at).stack in
    let parts = words-add stages machines (λ k n. total (of_slot (credits_of m k n).opened) v.slots.messages + of_hand (credits_of m k n) v.machine v.hand) (λ k n. of_stack (credits_of m k n).framed v.stack) in
    let first = words-add stages machines (λ k n. total (of_slot (credits_of m k n).opened) v.slots.messages) (λ k n. of_hand (credits_of m k n) v.machine v.hand) in
    let flying = words-le stages machines (λ k n. of_hand (flying_of m k n) v.machine v.hand) (λ k n. count (flying_of m k n) v) (λ k n some low here. omega arith) in
    omega arith

inbox-words : (w : World) (m place : ℕ) (ms : List Message) → Sound w → slice_get w.shared.inboxes place ≡ Some ms → words w (λ k n. queued m k n ms) ≡ homes_in m ms
inbox-words w m place ms sound at =
    let k = w.shared.shape.stages in
    let some = sound.tables.shape.some_stage in
    let whole : place / k * k + place % k ≡ place = omega arith in
    let low : place % k < k = omega arith in
    words-total (w.shared.shape.stages - 1) w.shared.shape.machines (λ k n (x : Message). one (is_word m k n x.from x.stage x.to)) ms
    ∙ total-alike_at (λ (x : Message). words w (λ k n. one (is_word m k n x.from x.stage x.to))) (λ (x : Message). one (eqb x.items.home m)) ms
    (λ j b e. let is = (sound.messages (place / k) (place % k) j ms b low (ap (slice_get w.shared.inboxes) whole ∙ at) e).0 in message-words w m b is.some_stage is.stage is.to is.home)

-- ---- the pool
limits-words : (w : World) (m : ℕ) → m < w.shared.shape.machines → words w (λ k n. limit_of w.shared.shape m n) ≡ pool_of w.shared.shape
limits-words w m low =
    below-same (w.shared.shape.stages - 1) (λ k. total_below w.shared.shape.machines (λ n. limit_of w.shared.shape m n)) (λ k. w.shared.shape.broad + (w.shared.shape.machines - 1) * w.shared.shape.credit)
    (λ k here. below-limit w.shared.shape.machines m w.shared.shape.broad w.shared.shape.credit low)
    ∙ below-const (w.shared.shape.stages - 1) (w.shared.shape.broad + (w.shared.shape.machines - 1) * w.shared.shape.credit)

pub pool-some : (w : World) (i k n : ℕ) (v : State) → Sound w → slice_get w.workers i ≡ Some v → v.hand ≡ Charged k n → 0 < pool_at w.shared v.machine
pool-some w i k n v sound at e =
    let m = v.machine in
    let stages = w.shared.shape.stages - 1 in
    let machines = w.shared.shape.machines in
    let here = machine-in w i v sound at in
    let unit : (j q : ℕ) → 0 < j → j ≤ stages → q < machines → IsUnit w.shared m j q = λ j q some low lq. (here, some, omega arith, lq) in
    let most = words-le stages machines (λ j q. used_at w.shared m j q) (λ j q. limit_of w.shared.shape m q) (λ j q some low lq. sound.limits m j q (unit j q some low lq)) in
    let all = limits-words w m here in
    let used = words-same stages machines (λ j q. used_at w.shared m j q) (λ j q. flying_at w.shared m j q + total (count (credits_of m j q)) w.workers) (λ j q some low lq. sound.used m j q (unit j q some low lq)) in
    let used_parts = words-add stages machines (λ j q. flying_at w.shared m j q) (λ j q. total (count (credits_of m j q)) w.workers) in
    let flying = words-same stages machines (λ j q. flying_at w.shared m j q) (λ j q. total (queued m j q) w.shared.inboxes + total (count (flying_of m j q)) w.workers) (λ j q some low lq. sound.flying m j q (unit j q some low lq)) in
    let flying_parts = words-add stages machines (λ j q. total (queued m j q) w.shared.inboxes) (λ j q. total (count (flying_of m j q)) w.workers) in
    let credits = words-total stages machines (λ j q. count (credits_of m j q)) w.workers in
    let flights = words-total stages machines (λ j q. count (flying_of m j q)) w.workers in
    let queues = words-total stages machines (λ j q. queued m j q) w.shared.inboxes in
    let homes = total-alike_at (λ ms. words w (λ j q. queued m j q ms)) (homes_in m) w.shared.inboxes (λ place ms there. inbox-words w m place ms sound there) in
    let both = total-add (λ u. words w (λ j q. count (credits_of m j q) u)) (λ u. words w (λ j q. count (flying_of m j q) u)) w.workers in
    let charged : charges m v.machine v.hand ≡ 1 = ap (charges m v.machine) e ∙ ap one (eq-eqb m m refl) in
    let mine = worker-words w i m v sound at in
    let held = total-less_at (count (buffers_of m)) (λ u. words w (λ j q. count (credits_of m j q) u) + words w (λ j q. count (flying_of m j q) u)) w.workers i v
    (λ j u there. let a = worker-words w j m u sound there in omega arith) at (omega arith) in
    let pools = sound.pools m here in
    omega arith

-- ---- the inbox
-- the messages of an inbox, by their senders
inbox-length : (w : World) (k n : ℕ) (ms : List Message) → Sound w → k < w.shared.shape.stages → slice_get w.shared.inboxes (inbox_place w.shared n k) ≡ Some ms →
    total_below w.shared.shape.machines (λ a. queued a k n ms) ≡ length ms
inbox-length w k n ms sound low at =
    below-total w.shared.shape.machines (λ a (x : Message). one (is_word a k n x.from x.stage x.to)) ms
    ∙ total-alike_at (λ (x : Message). total_below w.shared.shape.machines (λ a. one (is_word a k n x.from x.stage x.to))) (λ x. 1) ms
    (λ j b e.
    let is = sound.messages n k j ms b low at e in
    below-same w.shared.shape.machines (λ a. one (is_word a k n b.from b.stage b.to)) (λ a. one (is_word a k n b.from k n))
    (λ a lt. ap (λ x. one (is_word a k n b.from x b.to)) is.2 ∙ ap (λ x. one (is_word a k n b.from k x)) is.1)
    ∙ senders-one w.shared.shape.machines k n b.from is.0.from)
    ∙ total-length ms

pub inbox-space : (w : World) (i : ℕ) (v : State) (b : Message) → Sound w → slice_get w.workers i ≡ Some v → v.hand ≡ Posted b → can_push w.shared b.to b.stage ≡ true
inbox-space w i v b sound at e =
    let held = rw e at (sound.own i v at).hand in
    let is = subst (λ x. IsMessageOf x b) (shape-of w i v sound at) held.1 in
    let k = b.stage in
    let n = b.to in
    let machines = w.shared.shape.machines in
    let some = is.some_stage in
    let low = is.stage in
    let here = is.to in
    let unit : (a : ℕ) → a < machines → IsUnit w.shared a k n = λ a lt. (lt, some, low, here) in
    let size = sound.tables.inboxes in
    let place = mul-add-lt n w.shared.shape.stages k machines here low in
    let swap = mul_comm machines w.shared.shape.stages in
    let got = get-within w.shared.inboxes (inbox_place w.shared n k) (omega arith) in
    let ms = got.0 in
    let length_is = inbox-length w k n ms sound low got.1 in
    let queue = below-le machines (λ a. queued a k n ms) (λ a. total (queued a k n) w.shared.inboxes) (λ a lt. total-at (queued a k n) w.shared.inboxes (inbox_place w.shared n k) ms got.1) in
    let flying = below-same machines (λ a. flying_at w.shared a k n) (λ a. total (queued a k n) w.shared.inboxes + total (count (flying_of a k n)) w.workers) (λ a lt. sound.flying a k n (unit a lt)) in
    let parts = below-add machines (λ a. total (queued a k n) w.shared.inboxes) (λ a. total (count (flying_of a k n)) w.workers) in
    let workers = below-total machines (λ a. count (flying_of a k n)) w.workers in
    let mine = total-at (λ u. total_below machines (λ a. count (flying_of a k n) u)) w.workers i v at in
    let hand = below-le machines (λ a. one (is_word a k n b.from k n)) (λ a. count (flying_of a k n) v)
    (λ a lt. let c : of_hand (flying_of a k n) v.machine v.hand ≡ one (is_word a k n b.from k n) = ap (of_hand (flying_of a k n) v.machine) e in omega arith) in
    let is_one = senders-one machines k n b.from is.from in
    let used = below-le machines (λ a. flying_at w.shared a k n) (λ a. limit_of w.shared.shape a n) (λ a lt. let u = sound.used a k n (unit a lt) in let l = sound.limits a k n (unit a lt) in omega arith) in
    let limit = below-limit_to machines n w.shared.shape.broad w.shared.shape.credit here in
    let less : length ms < room_of w.shared.shape = omega arith in
    let t1 : nat_lt 0 k ≡ true = grind (arith, nat_tests) in
    let t2 : nat_lt k w.shared.shape.stages ≡ true = grind (arith, nat_tests) in
    let is_at : inbox_at w.shared n k ≡ Some ms = ap (λ t. cond (t && nat_lt k w.shared.shape.stages) (slice_get w.shared.inboxes (inbox_place w.shared n k)) None) t1 ∙ ap (λ t. cond t (slice_get w.shared.inboxes (inbox_place w.shared n k)) None) t2 ∙ got.1 in
    let t3 : nat_lt (length ms) (room_of w.shared.shape) ≡ true = grind (arith, nat_tests) in
    ap (has_space w.shared.shape) is_at ∙ t3

-- ---- a message that has come
pub can-pick : (w : World) (i : ℕ) (v : State) (b : Message) → Sound w → slice_get w.workers i ≡ Some v → v.hand ≡ Popped b → can_pick w.shared b.from b.stage b.to ≡ true
can-pick w i v b sound at e =
    let held = rw e at (sound.own i v at).hand in
    let unit = message-unit w v.shape b (shape-of w i v sound at) held.2 in
    let all = sound.flying b.from b.stage b.to unit in
    let mine = total-at (count (flying_of b.from b.stage b.to)) w.workers i v at in
    let hand : of_hand (flying_of b.from b.stage b.to) v.machine v.hand ≡ one (is_word b.from b.stage b.to b.from b.stage b.to) = ap (of_hand (flying_of b.from b.stage b.to) v.machine) e in
    let self = ap one (word-self b.from b.stage b.to) in
    let some : 0 < flying_at w.shared b.from b.stage b.to = omega arith in
    let test : nat_lt 0 (flying_at w.shared b.from b.stage b.to) ≡ true = grind (arith, nat_tests) in
    test
