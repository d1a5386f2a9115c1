-- What stands outside the pools of a sound world is within its bound.
use Rattle.std.proofs.Common.{◌≡◌, ℕ, ◌+◌, ◌-◌, ◌*◌, ◌<◌, ◌≤◌, Bool, true, false, cond, ◌&&◌, eqb, List, [], ◌∷◌, length, get_or, ◌≢◌, Option, Some, None, refl, sym, ap, subst, ◌∙◌, arith, zero, suc}
use Rattle.std.specs.Prelude.{slice_get, nat_lt}
use Rattle.std.proofs.Math.Nat.{mul-le-mul, mul-le-mul_left}
use Rattle.std.proofs.lemmas.Bool.{eqb-false}
use Rattle.std.proofs.lemmas.Option.{get_or_from_slice_get}
use Rattle.adfs_base.specs.Shape.{Extents, IsShape, pool_of, need_of, contexts_of}
use Rattle.match_context.specs.Bags.{total}
use Rattle.match_context.specs.Tree.{Tree, IsTree}
use Rattle.match_context.specs.declared.context.Context.{Context}
use Rattle.match_context.specs.declared.frame.Frame.{Frame}
use Rattle.match_context.specs.declared.frame.Rest.{Rest}
use Rattle.match_context.specs.declared.frame.Rest.TheVariants as rest
use Rattle.match_context.specs.declared.message.Message.{Message}
use Rattle.fabric.specs.Shared.{Shared, IsShared, inbox_at}
use Rattle.fabric.proofs.Agrees.{inbox-is}
use Rattle.dfs_worker.specs.declared.event.Event.{Event}
use Rattle.dfs_worker.specs.declared.event.Event.TheVariants as event
use Rattle.dfs_worker.specs.declared.hand.Hand.{Hand}
use Rattle.dfs_worker.specs.declared.hand.Hand.TheVariants.{Free, Charged, Posted, Popped, Emptied}
use Rattle.dfs_worker.specs.Census.{count, buffers_of, one, of_slot, of_hand, of_rest, of_stack}
use Rattle.dfs_worker.specs.Sound.{IsWorker, IsStack, StandsOn, IsHand, AreSlots}
use Rattle.dfs_worker.specs.State.{State, next_stage, waiting}
use Rattle.dfs_worker.proofs.Stacks.{stack-fits, top-low}
use Rattle.world_core.specs.Bound.{Bound, RunsAreBounded}
use Rattle.world_core.specs.Gauge.{in_slot, in_hand, in_rest, in_frame, in_worker, messages_of, in_inbox, in_machine, in_inboxes, outside, one_buffer, its_contexts, children, at_frame, at_worker, gauge_of}
use Rattle.world_core.specs.Owed.{total_below}
use Rattle.world_core.specs.Sound.{Sound, AreMessages}
use Rattle.world_core.specs.Step.{charged_for, pushed_from, picked_from, restored_rest, restored_from, discharged_from, shared_part, happens_at, worker_of, Run}
use Rattle.world_core.specs.World.{World, start_world}
use Rattle.world_core.proofs.Leaves.{run-keeps}
use Rattle.world_core.proofs.Starts.{start-sound, start-fits}

-- ---- sums of what is smaller
-- what is no more at each place is no more in all
pub sum-le : {A : Type 0} (f g : A → ℕ) (xs : List A) → ((i : ℕ) (x : A) → slice_get xs i ≡ Some x → f x ≤ g x) → total f xs ≤ total g xs
sum-le f g [] each = omega arith
sum-le f g (x ∷ xs) each =
    let first = each 0 x refl in
    let rest = sum-le f g xs (λ i y e. each (suc i) y e) in
    omega arith

below-le : (n : ℕ) (f g : ℕ → ℕ) → ((i : ℕ) → i < n → f i ≤ g i) → total_below n f ≤ total_below n g
below-le zero f g each = omega arith
below-le (suc n) f g each =
    let last = each n (omega arith) in
    let front = below-le n f g (λ i low. each i (omega arith)) in
    omega arith

below-const : (n b : ℕ) → total_below n (λ i. b) ≡ n * b
below-const zero b = omega arith
below-const (suc n) b = let front = below-const n b in let e : suc n * b ≡ n * b + b = omega arith in omega arith

-- ---- a number of each buffer is a sum of numbers: so is its sum
sum-plus : {A : Type 0} (f g h : A → ℕ) (xs : List A) → ((x : A) → f x ≡ g x + h x) → total f xs ≡ total g xs + total h xs
sum-plus f g h [] each = omega arith
sum-plus f g h (x ∷ xs) each = let first = each x in let rest = sum-plus f g h xs each in omega arith

below-plus : (n : ℕ) (f g h : ℕ → ℕ) → ((i : ℕ) → f i ≡ g i + h i) → total_below n f ≡ total_below n g + total_below n h
below-plus zero f g h each = omega arith
below-plus (suc n) f g h each = let last = each n in let front = below-plus n f g h each in omega arith

slot-plus : (f g h : Message → ℕ) → ((m : Message) → f m ≡ g m + h m) → (o : Option Message) → in_slot f o ≡ in_slot g o + in_slot h o
slot-plus f g h each None = omega arith
slot-plus f g h each (Some m) = each m

hand-plus : (f g h : Message → ℕ) → ((m : Message) → f m ≡ g m + h m) → (hand : Hand) → in_hand f hand ≡ in_hand g hand + in_hand h hand
hand-plus f g h each Free = omega arith
hand-plus f g h each (Charged k n) = omega arith
hand-plus f g h each (Posted m) = each m
hand-plus f g h each (Popped m) = each m
hand-plus f g h each (Emptied m k) = omega arith

rest-plus : (f g h : Message → ℕ) → ((m : Message) → f m ≡ g m + h m) → (r : Rest) → in_rest f r ≡ in_rest g r + in_rest h r
rest-plus f g h each rest.None = omega arith
rest-plus f g h each (rest.Roots next end) = omega arith
rest-plus f g h each (rest.Items m next over) = each m

worker-plus : (f g h : Message → ℕ) → ((m : Message) → f m ≡ g m + h m) → (v : State) → in_worker f v ≡ in_worker g v + in_worker h v
worker-plus f g h each v =
    let slots = sum-plus (in_slot f) (in_slot g) (in_slot h) v.slots.messages (slot-plus f g h each) in
    let hand = hand-plus f g h each v.hand in
    let stack = sum-plus (in_frame f) (in_frame g) (in_frame h) v.stack (λ frame. rest-plus f g h each frame.rest) in
    omega arith

outside-plus : (f g h : Message → ℕ) (w : World) → ((m : Message) → f m ≡ g m + h m) → outside f w ≡ outside g w + outside h w
outside-plus f g h w each =
    let workers = sum-plus (in_worker f) (in_worker g) (in_worker h) w.workers (worker-plus f g h each) in
    let inboxes =
    below-plus w.shared.shape.machines (in_machine f w.shared) (in_machine g w.shared) (in_machine h w.shared)
    (λ n. below-plus w.shared.shape.stages (λ k. in_inbox f (inbox_at w.shared n k)) (λ k. in_inbox g (inbox_at w.shared n k)) (λ k. in_inbox h (inbox_at w.shared n k))
    (λ k. sum-plus f g h (messages_of (inbox_at w.shared n k)) each)) in
    omega arith

sum-none : {A : Type 0} (f : A → ℕ) (xs : List A) → ((x : A) → f x ≡ 0) → total f xs ≡ 0
sum-none f [] each = refl
sum-none f (x ∷ xs) each = let first = each x in let rest = sum-none f xs each in omega arith

below-none : (n : ℕ) (f : ℕ → ℕ) → ((i : ℕ) → f i ≡ 0) → total_below n f ≡ 0
below-none zero f each = refl
below-none (suc n) f each = let last = each n in let front = below-none n f each in omega arith

slot-none : (o : Option Message) → in_slot (λ m. 0) o ≡ 0
slot-none None = refl
slot-none (Some m) = refl

hand-none : (hand : Hand) → in_hand (λ m. 0) hand ≡ 0
hand-none Free = refl
hand-none (Charged k n) = refl
hand-none (Posted m) = refl
hand-none (Popped m) = refl
hand-none (Emptied m k) = refl

rest-none : (r : Rest) → in_rest (λ m. 0) r ≡ 0
rest-none rest.None = refl
rest-none (rest.Roots next end) = refl
rest-none (rest.Items m next over) = refl

worker-none : (v : State) → in_worker (λ m. 0) v ≡ 0
worker-none v =
    let slots = sum-none (in_slot (λ m. 0)) v.slots.messages slot-none in
    let hand = hand-none v.hand in
    let stack = sum-none (in_frame (λ m. 0)) v.stack (λ frame. rest-none frame.rest) in
    omega arith

outside-none : (w : World) → outside (λ m. 0) w ≡ 0
outside-none w =
    let workers = sum-none (in_worker (λ m. 0)) w.workers worker-none in
    let inboxes =
    below-none w.shared.shape.machines (in_machine (λ m. 0) w.shared)
    (λ n. below-none w.shared.shape.stages (λ k. in_inbox (λ m. 0) (inbox_at w.shared n k)) (λ k. sum-none (λ (m : Message). 0) (messages_of (inbox_at w.shared n k)) (λ m. refl))) in
    omega arith

-- the sum of so many numbers
outside-sum : (n : ℕ) (f : ℕ → Message → ℕ) (w : World) → outside (λ m. total_below n (λ i. f i m)) w ≡ total_below n (λ i. outside (f i) w)
outside-sum zero f w = outside-none w
outside-sum (suc n) f w =
    let both = outside-plus (λ m. total_below (suc n) (λ i. f i m)) (λ m. total_below n (λ i. f i m)) (f n) w (λ m. refl) in
    let front = outside-sum n f w in
    omega arith

-- ---- what is known of each buffer outside the pools
pub record IsOut (shape : Extents) (m : Message) : Type 0 where
  pub home : m.items.home < shape.machines
  pub within : length m.items.items ≤ shape.buffer

abbrev Less : Extents → (Message → ℕ) → (Message → ℕ) → Type 0
Less shape f g = (m : Message) → IsOut shape m → f m ≤ g m

slot-le : (shape : Extents) (machine : ℕ) (v : State) (f g : Message → ℕ) → AreSlots shape machine v.slots → Less shape f g → (i : ℕ) (o : Option Message) →
    slice_get v.slots.messages i ≡ Some o → in_slot f o ≤ in_slot g o
slot-le shape machine v f g are each i None at = omega arith
slot-le shape machine v f g are each i (Some m) at =
    let is = are.each_open i m (get_or_from_slice_get v.slots.messages i (Some m) None at) in
    let from = is.whole.from in
    let home = is.whole.home in
    each m (record { home = omega arith; within = is.whole.within })

hand-le : (v : State) (f g : Message → ℕ) (hand : Hand) → IsHand v hand → Less v.shape f g → in_hand f hand ≤ in_hand g hand
hand-le v f g Free is each = omega arith
hand-le v f g (Charged k n) is each = omega arith
hand-le v f g (Posted m) is each =
    let from = is.1.from in
    let home = is.1.home in
    each m (record { home = omega arith; within = is.1.within })
hand-le v f g (Popped m) is each =
    let from = is.2.from in
    let home = is.2.home in
    each m (record { home = omega arith; within = is.2.within })
hand-le v f g (Emptied m k) is each = omega arith

stack-le : (shape : Extents) (enrolled : Bool) (machine : ℕ) (f g : Message → ℕ) (frames : List Frame) → IsStack shape enrolled machine frames → Less shape f g →
    total (in_frame f) frames ≤ total (in_frame g) frames
stack-le shape enrolled machine f g [] is each = omega arith
stack-le shape enrolled machine f g (frame ∷ frames) is each =
    let below = stack-le shape enrolled machine f g frames is.1 each in
    let top = on frame.rest is.0.stands in
    omega arith
  where
    on : (r : Rest) → StandsOn shape enrolled machine frame.stage (next_stage frames) frames frame.wait r → in_rest f r ≤ in_rest g r
    on rest.None stands = omega arith
    on (rest.Roots next end) stands = omega arith
    on (rest.Items m next over) stands =
        let from = stands.packet.from in
        let home = stands.packet.home in
        each m (record { home = omega arith; within = stands.packet.within })

worker-le : (v : State) (f g : Message → ℕ) → IsWorker v → Less v.shape f g → in_worker f v ≤ in_worker g v
worker-le v f g is each =
    let slots = sum-le (in_slot f) (in_slot g) v.slots.messages (slot-le v.shape v.machine v f g is.slots each) in
    let hand = hand-le v f g v.hand is.hand each in
    let stack = stack-le v.shape v.enrolled v.machine f g v.stack is.stack each in
    omega arith

inbox-le : (s : Shared) (f g : Message → ℕ) (machine stage : ℕ) (o : Option (List Message)) → inbox_at s machine stage ≡ o → AreMessages s → Less s.shape f g → in_inbox f o ≤ in_inbox g o
inbox-le s f g machine stage None at are each = omega arith
inbox-le s f g machine stage (Some ms) at are each =
    sum-le f g ms
    (λ i m e.
    let found = inbox-is s machine stage ms at in
    let is = (are machine stage i ms m found.stage found.at e).0 in
    let from = is.from in
    let home = is.home in
    each m (record { home = omega arith; within = is.within }))

outside-le : (w : World) (f g : Message → ℕ) → Sound w → Less w.shared.shape f g → outside f w ≤ outside g w
outside-le w f g sound each =
    let workers =
    sum-le (in_worker f) (in_worker g) w.workers
    (λ i v at. worker-le v f g (sound.own i v at) (subst (λ shape. Less shape f g) (sym (sound.placed i v at).shape) each)) in
    let inboxes =
    below-le w.shared.shape.machines (in_machine f w.shared) (in_machine g w.shared)
    (λ n low. below-le w.shared.shape.stages (λ k. in_inbox f (inbox_at w.shared n k)) (λ k. in_inbox g (inbox_at w.shared n k))
    (λ k high. inbox-le w.shared f g n k (inbox_at w.shared n k) refl sound.messages each)) in
    omega arith

-- ---- the buffers of a home
abbrev of_home : ℕ → Message → ℕ
of_home home m = one (eqb m.items.home home)

lower : (x n : ℕ) → x < suc n → x ≢ n → x < n
lower x n low apart = grind (arith, low, apart)

-- each has one
one-home : (n x : ℕ) → x < n → 1 ≤ total_below n (λ h. one (eqb x h))
one-home zero x low = absurd (omega arith)
one-home (suc n) x low = go (eqb x n) refl (one-home n x)
  where
    go : (b : Bool) → eqb x n ≡ b → (x < n → 1 ≤ total_below n (λ h. one (eqb x h))) → 1 ≤ total_below (suc n) (λ h. one (eqb x h))
    go true e before = let here : one (eqb x n) ≡ 1 = ap one e in omega arith
    go false e before = let found = before (lower x n low (eqb-false x n e)) in omega arith

pub sum-same : {A : Type 0} (f g : A → ℕ) (xs : List A) → ((x : A) → f x ≡ g x) → total f xs ≡ total g xs
sum-same f g [] each = refl
sum-same f g (x ∷ xs) each = let first = each x in let rest = sum-same f g xs each in omega arith

slot-same : (h : ℕ) (o : Option Message) → in_slot (of_home h) o ≡ of_slot (buffers_of h).opened o
slot-same h None = refl
slot-same h (Some m) = refl

hand-same : (h machine : ℕ) (hand : Hand) → in_hand (of_home h) hand ≡ of_hand (buffers_of h) machine hand
hand-same h machine Free = refl
hand-same h machine (Charged k n) = refl
hand-same h machine (Posted m) = refl
hand-same h machine (Popped m) = refl
hand-same h machine (Emptied m k) = refl

rest-same : (h : ℕ) (r : Rest) → in_rest (of_home h) r ≡ of_rest (buffers_of h).framed r
rest-same h rest.None = refl
rest-same h (rest.Roots next end) = refl
rest-same h (rest.Items m next over) = refl

stack-same : (h : ℕ) (frames : List Frame) → total (in_frame (of_home h)) frames ≡ of_stack (buffers_of h).framed frames
stack-same h [] = refl
stack-same h (frame ∷ frames) = let first = rest-same h frame.rest in let below = stack-same h frames in omega arith

worker-same : (h : ℕ) (v : State) → in_worker (of_home h) v ≡ count (buffers_of h) v
worker-same h v =
    let slots = sum-same (in_slot (of_home h)) (of_slot (buffers_of h).opened) v.slots.messages (slot-same h) in
    let hand = hand-same h v.machine v.hand in
    let stack = stack-same h v.stack in
    omega arith

-- ---- the inboxes, row by row
below-shift : (n : ℕ) (f : ℕ → ℕ) → total_below (suc n) f ≡ f 0 + total_below n (λ i. f (suc i))
below-shift zero f = omega arith
below-shift (suc n) f = let front = below-shift n f in omega arith

below-list : {A : Type 0} (f : A → ℕ) (xs : List A) (d : A) → total_below (length xs) (λ i. f (get_or xs i d)) ≡ total f xs
below-list f [] d = refl
below-list f (x ∷ xs) d =
    let shifted = below-shift (length xs) (λ i. f (get_or (x ∷ xs) i d)) in
    let rest = below-list f xs d in
    omega arith

below-append : (a b : ℕ) (f : ℕ → ℕ) → total_below (a + b) f ≡ total_below a f + total_below b (λ k. f (a + k))
below-append a zero f = let e : a + 0 ≡ a = omega arith in rw e (omega arith)
below-append a (suc b) f =
    let e : a + suc b ≡ suc (a + b) = omega arith in
    let whole : total_below (a + suc b) f ≡ total_below (a + b) f + f (a + b) = ap (λ m. total_below m f) e in
    let front = below-append a b f in
    omega arith

below-rows : (n k : ℕ) (f : ℕ → ℕ) → total_below n (λ i. total_below k (λ j. f (i * k + j))) ≡ total_below (n * k) f
below-rows zero k f = let e : 0 * k ≡ 0 = omega arith in sym (ap (λ m. total_below m f) e)
below-rows (suc n) k f =
    let e : suc n * k ≡ n * k + k = omega arith in
    let front = below-rows n k f in
    let all = ap (λ m. total_below m f) e ∙ below-append (n * k) k f in
    omega arith

got : (f : Message → ℕ) (xs : List (List Message)) (i : ℕ) → in_inbox f (slice_get xs i) ≡ total f (get_or xs i [])
got f [] i = refl
got f (x ∷ xs) zero = refl
got f (x ∷ xs) (suc i) = got f xs i

inbox-row : (s : Shared) (f : Message → ℕ) (n k : ℕ) → in_inbox f (inbox_at s n k) ≤ total f (get_or s.inboxes (n * s.shape.stages + k) [])
inbox-row s f n k = go (nat_lt 0 k && nat_lt k s.shape.stages) refl
  where
    go : (b : Bool) → (nat_lt 0 k && nat_lt k s.shape.stages) ≡ b → in_inbox f (inbox_at s n k) ≤ total f (get_or s.inboxes (n * s.shape.stages + k) [])
    go true e =
        let there : inbox_at s n k ≡ slice_get s.inboxes (n * s.shape.stages + k) = ap (λ b. cond b (slice_get s.inboxes (n * s.shape.stages + k)) None) e in
        let same = ap (in_inbox f) there ∙ got f s.inboxes (n * s.shape.stages + k) in
        omega arith
    go false e =
        let none : inbox_at s n k ≡ None = ap (λ b. cond b (slice_get s.inboxes (n * s.shape.stages + k)) None) e in
        let same : in_inbox f (inbox_at s n k) ≡ 0 = ap (in_inbox f) none in
        omega arith

inboxes-le : (s : Shared) (f : Message → ℕ) → IsShared s → in_inboxes f s ≤ total (total f) s.inboxes
inboxes-le s f is =
    let number = λ (i : ℕ). total f (get_or s.inboxes i []) in
    let rows =
    below-le s.shape.machines (in_machine f s) (λ n. total_below s.shape.stages (λ k. total f (get_or s.inboxes (n * s.shape.stages + k) [])))
    (λ n low. below-le s.shape.stages (λ k. in_inbox f (inbox_at s n k)) (λ k. total f (get_or s.inboxes (n * s.shape.stages + k) []))
    (λ k high. inbox-row s f n k)) in
    let flat = below-rows s.shape.machines s.shape.stages (λ i. total f (get_or s.inboxes i [])) in
    let same = ap (λ m. total_below m (λ i. total f (get_or s.inboxes i []))) (sym is.inboxes) ∙ below-list (total f) s.inboxes [] in
    omega arith

-- ---- the bound
home-bounded : (w : World) (h : ℕ) → Sound w → h < w.shared.shape.machines → outside (of_home h) w ≤ pool_of w.shared.shape
home-bounded w h sound low =
    let workers = sum-same (in_worker (of_home h)) (count (buffers_of h)) w.workers (worker-same h) in
    let inboxes = inboxes-le w.shared (of_home h) sound.tables in
    let all = sound.pools h low in
    omega arith

pub buffers-bounded : (w : World) → Sound w → outside one_buffer w ≤ need_of w.shared.shape
buffers-bounded w sound =
    let m = w.shared.shape.machines in
    let less = outside-le w one_buffer (λ b. total_below m (λ h. of_home h b)) sound (λ b is. one-home m b.items.home is.home) in
    let sum = outside-sum m of_home w in
    let each = below-le m (λ h. outside (of_home h) w) (λ h. pool_of w.shared.shape) (λ h low. home-bounded w h sound low) in
    let all = below-const m (pool_of w.shared.shape) in
    omega arith

contexts-bounded : (w : World) → Sound w → outside its_contexts w ≤ w.shared.shape.buffer * need_of w.shared.shape
contexts-bounded w sound =
    let size = w.shared.shape.buffer in
    let less = outside-le w its_contexts (λ b. total_below size (λ i. one_buffer b)) sound (λ b is. let within = is.within in let ones = below-const size 1 in omega arith) in
    let sum = outside-sum size (λ i. one_buffer) w in
    let all = below-const size (outside one_buffer w) in
    let most = mul-le-mul_left size (buffers-bounded w sound) in
    omega arith

frame-two : (frame : Frame) → at_frame frame ≤ 2
frame-two frame = go frame.wait
  where
    go : (o : Option (Context × ℕ)) → 1 + children o ≤ 2
    go None = omega arith
    go (Some child) = omega arith

sum-const : {A : Type 0} (b : ℕ) (xs : List A) → total (λ x. b) xs ≡ length xs * b
sum-const b [] = omega arith
sum-const b (x ∷ xs) = let rest = sum-const b xs in let e : suc (length xs) * b ≡ length xs * b + b = omega arith in omega arith

worker-bounded : (v : State) → IsWorker v → at_worker v ≤ 2 * v.shape.stages
worker-bounded v is =
    let each = sum-le at_frame (λ frame. 2) v.stack (λ i frame at. frame-two frame) in
    let all = sum-const 2 v.stack in
    let fits = stack-fits v.shape v.enrolled v.machine v.stack is.stack in
    let low = top-low v.shape v.enrolled v.machine v.stack is.stack in
    omega arith

workers-bounded : (w : World) → Sound w → total at_worker w.workers ≤ 2 * w.shared.shape.stages * w.shared.shape.machines * w.shared.shape.workers
workers-bounded w sound =
    let x = w.shared.shape in
    let each =
    sum-le at_worker (λ v. 2 * x.stages) w.workers
    (λ i v at. subst (λ shape. at_worker v ≤ 2 * shape.stages) (sound.placed i v at).shape (worker-bounded v (sound.own i v at))) in
    let all = sum-const (2 * x.stages) w.workers in
    let count = ap (λ n. n * (2 * x.stages)) sound.number_of_workers in
    let turned : x.machines * x.workers * (2 * x.stages) ≡ 2 * x.stages * x.machines * x.workers = omega arith in
    omega arith

pub bounded : (w : World) → Sound w → Bound w.shared.shape (gauge_of w)
bounded w sound =
    let contexts = contexts-bounded w sound in
    let workers = workers-bounded w sound in
    record { buffers = buffers-bounded w sound; contexts = omega arith }

product : (a b c d : ℕ) → a ≤ c → b ≤ d → a * b ≤ c * d
product a b c d first second = mul-le-mul first second

-- the bound is a number of 63 bits
pub small : (shape : Extents) → IsShape shape → (need_of shape < 9223372036854775808) × (contexts_of shape < 9223372036854775808)
small shape is =
    let machines = is.machines in
    let workers = is.workers in
    let stages = is.stages in
    let credit = is.credit in
    let broad = is.broad in
    let buffer = is.buffer in
    let far = product (shape.machines - 1) shape.credit 7 8 (omega arith) credit in
    let pool = product (shape.stages - 1) (shape.broad + (shape.machines - 1) * shape.credit) 25 72 (omega arith) (omega arith) in
    let need = product shape.machines (pool_of shape) 8 1800 machines (omega arith) in
    let held = product shape.buffer (need_of shape) 64 14400 buffer (omega arith) in
    let tall = product (2 * shape.stages) shape.machines 52 8 (omega arith) machines in
    let all = product (2 * shape.stages * shape.machines) shape.workers 416 8 (omega arith) workers in
    (omega arith, omega arith)

-- ---- a run
charged-shape : (o : Option (ℕ × ℕ)) (machine : ℕ) (s : Shared) → (charged_for o machine s).shape ≡ s.shape
charged-shape None machine s = refl
charged-shape (Some child) machine s = refl

pushed-shape : (hand : Hand) (s : Shared) → (pushed_from hand s).shape ≡ s.shape
pushed-shape Free s = refl
pushed-shape (Charged k n) s = refl
pushed-shape (Posted m) s = refl
pushed-shape (Popped m) s = refl
pushed-shape (Emptied m k) s = refl

picked-shape : (hand : Hand) (s : Shared) → (picked_from hand s).shape ≡ s.shape
picked-shape Free s = refl
picked-shape (Charged k n) s = refl
picked-shape (Posted m) s = refl
picked-shape (Popped m) s = refl
picked-shape (Emptied m k) s = refl

rest-shape : (r : Rest) (s : Shared) → (restored_rest r s).shape ≡ s.shape
rest-shape rest.None s = refl
rest-shape (rest.Roots next end) s = refl
rest-shape (rest.Items m next over) s = refl

restored-shape : (frames : List Frame) (s : Shared) → (restored_from frames s).shape ≡ s.shape
restored-shape [] s = refl
restored-shape (frame ∷ frames) s = rest-shape frame.rest s

discharged-shape : (hand : Hand) (machine : ℕ) (s : Shared) → (discharged_from hand machine s).shape ≡ s.shape
discharged-shape Free machine s = refl
discharged-shape (Charged k n) machine s = refl
discharged-shape (Posted m) machine s = refl
discharged-shape (Popped m) machine s = refl
discharged-shape (Emptied m k) machine s = refl

event-shape : (e : Event) (v : State) (s : Shared) → (shared_part e v s).shape ≡ s.shape
event-shape (event.Claim w) v s = refl
event-shape (event.Retire w) v s = refl
event-shape (event.Advance w) v s = refl
event-shape (event.Descend w) v s = refl
event-shape (event.Append w) v s = refl
event-shape (event.Charge w) v s = charged-shape (waiting v.stack) v.machine s
event-shape (event.Fetch w) v s = refl
event-shape (event.Post w k n) v s = refl
event-shape (event.Push w) v s = pushed-shape v.hand s
event-shape (event.Pop w k) v s = refl
event-shape (event.Pick w) v s = picked-shape v.hand s
event-shape (event.Restore w) v s = restored-shape v.stack s
event-shape (event.Discharge w) v s = discharged-shape v.hand v.machine s
event-shape (event.Mark w a b) v s = refl
event-shape (event.Close w) v s = refl

happens-shape : (t : Tree) (w : World) (e : Event) (o : Option State) → (happens_at t w e o).shared.shape ≡ w.shared.shape
happens-shape t w e None = refl
happens-shape t w e (Some v) = event-shape e v w.shared

run-shape : (t : Tree) (events : List Event) (w w' : World) → Run t w events w' → w'.shared.shape ≡ w.shared.shape
run-shape t [] w w' run = ap (λ (u : World). u.shared.shape) run
run-shape t (e ∷ es) w w' run =
    run-shape t es run.0 w' run.1.1 ∙ ap (λ (u : World). u.shared.shape) run.1.0.change ∙ happens-shape t w e (slice_get w.workers (worker_of e))

pub runs_are_bounded : RunsAreBounded
runs_are_bounded shape t events w is law stages machines run =
    let keeps = run-keeps t events (start_world shape t) w law (start-sound shape t is) (start-fits shape t stages machines) run in
    subst (λ x. Bound x (gauge_of w)) (run-shape t events (start_world shape t) w run) (bounded w keeps.sound)
