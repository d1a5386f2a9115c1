-- Each worker of a sound world meets what a turn over the plain fabric asks for.
use Rattle.std.proofs.Common.{◌≡◌, ℕ, ◌+◌, ◌*◌, ◌/◌, ◌<◌, ◌≤◌, Bool, true, false, cond, ◌&&◌, ◌==◌, eqb, ltb, List, [], ◌∷◌, length, get_or, Option, Some, None, refl, sym, ap, subst, ◌∙◌, arith, suc, ◌⊎◌, inl, inr}
use Rattle.std.specs.Prelude.{slice_get, slice_index, slice_index_or}
use Rattle.std.proofs.lemmas.Bool.{false≢true}
use Rattle.std.proofs.lemmas.Bool.Decides.{nat_tests}
use Rattle.std.proofs.lemmas.List.{get_or_past}
use Rattle.std.proofs.lemmas.Option.{get_or_from_slice_get}
use Rattle.adfs_base.specs.Shape.{Extents}
use Rattle.adfs_base.specs.declared.step_answers.Word.{Word}
use Rattle.match_context.specs.Bags.{total}
use Rattle.match_context.specs.Tree.{Tree, IsTree}
use Rattle.match_context.specs.declared.context.Context.{Context}
use Rattle.match_context.specs.declared.frame.Frame.{Frame}
use Rattle.match_context.specs.declared.frame.Rest.{Rest}
use Rattle.match_context.specs.declared.frame.Rest.TheVariants as rest
use Rattle.match_context.specs.declared.message.Message.{Message}
use Rattle.match_context.proofs.Totals.{total-at}
use Rattle.stage_termination.specs.Marks.{is_marked}
use Rattle.fabric.specs.Account.{Holding}
use Rattle.fabric.specs.Plain.{PlainAgrees, plain_shape}
use Rattle.fabric.specs.Shared.{Shared, machine_of, used_at, flying_at, roots_at, cursor_at}
use Rattle.fabric.proofs.Agrees.{inbox-is}
use Rattle.dfs_worker.specs.declared.hand.Hand.{Hand}
use Rattle.dfs_worker.specs.declared.hand.Hand.TheVariants.{Free, Charged, Posted, Popped, Emptied}
use Rattle.dfs_worker.specs.Census.{Census, count, credits_of, buffers_of, one, is_word, of_message, of_slot, of_rest, of_hand, of_stack}
use Rattle.dfs_worker.specs.Sound.{IsWorker, IsStack, StandsOn, IsHand, AreSlots, RestWithin, WithinRoots, TreeFits}
use Rattle.dfs_worker.specs.State.{State, next_stage}
use Rattle.dfs_worker.specs.Turn as turn
use Rattle.dfs_worker.specs.Turn.{own_credits, works_of, homes_of}
use Rattle.world_core.specs.Sound.{Sound}
use Rattle.world_core.specs.Turns.{WorkersMayTurn}
use Rattle.world_core.specs.World.{World, Fits, start_world}
use Rattle.world_core.proofs.Bounds.{sum-le, sum-same}
use Rattle.world_core.proofs.Leaves.{run-keeps}
use Rattle.world_core.proofs.Parts.{sound-part, machine-in}
use Rattle.world_core.proofs.Starts.{start-sound, start-fits}

-- ---- credits: those of open buffers and a charged hand are the sender's, those of message frames and an emptied hand
-- the target's
word-own : (f k n m k' n' : ℕ) → cond (eqb f m) (one ((k == k') && (n == n'))) 0 ≤ one (is_word f k n m k' n')
word-own f k n m k' n' = grind (arith, nat_tests)

word-work : (f k n f' k' m : ℕ) → cond (eqb n m) (one ((f == f') && (k == k'))) 0 ≤ one (is_word f k n f' k' m)
word-work f k n f' k' m = grind (arith, nat_tests)

cond-plus : (test : Bool) (a b : ℕ) → cond test (a + b) 0 ≡ cond test a 0 + cond test b 0
cond-plus true a b = refl
cond-plus false a b = omega arith

nothing : (test : Bool) → cond test 0 0 ≤ 0
nothing true = omega arith
nothing false = omega arith

sum-if : {A : Type 0} (test : Bool) (f : A → ℕ) (xs : List A) → cond test (total f xs) 0 ≡ total (λ x. cond test (f x) 0) xs
sum-if true f xs = refl
sum-if false f [] = refl
sum-if false f (x ∷ xs) = let rest = sum-if false f xs in omega arith

slot-own : (shape : Extents) (machine f k n : ℕ) (v : State) → AreSlots shape machine v.slots → (i : ℕ) (o : Option Message) → slice_get v.slots.messages i ≡ Some o →
    cond (eqb f machine) (of_slot (own_credits k n).opened o) 0 ≤ of_slot (credits_of f k n).opened o
slot-own shape machine f k n v are i None at = nothing (eqb f machine)
slot-own shape machine f k n v are i (Some b) at =
    let is = are.each_open i b (get_or_from_slice_get v.slots.messages i (Some b) None at) in
    subst (λ m. cond (eqb f m) (one ((k == b.stage) && (n == b.to))) 0 ≤ one (is_word f k n b.from b.stage b.to)) is.own (word-own f k n b.from b.stage b.to)

slot-none : (f k : ℕ) (o : Option Message) → of_slot (works_of f k).opened o ≡ 0
slot-none f k None = refl
slot-none f k (Some b) = refl

all-none : {A : Type 0} (f : A → ℕ) (xs : List A) → ((x : A) → f x ≡ 0) → total f xs ≡ 0
all-none f [] each = refl
all-none f (x ∷ xs) each = let first = each x in let rest = all-none f xs each in omega arith

hand-held : (m f k n : ℕ) (hand : Hand) → cond (eqb f m) (of_hand (own_credits k n) m hand) 0 + cond (eqb n m) (of_hand (works_of f k) m hand) 0 ≤ of_hand (credits_of f k n) m hand
hand-held m f k n Free = let a = nothing (eqb f m) in let b = nothing (eqb n m) in omega arith
hand-held m f k n (Charged k' n') = let a = word-own f k n m k' n' in let b = nothing (eqb n m) in omega arith
hand-held m f k n (Posted b) = let a = nothing (eqb f m) in let c = nothing (eqb n m) in omega arith
hand-held m f k n (Popped b) = let a = nothing (eqb f m) in let c = nothing (eqb n m) in omega arith
hand-held m f k n (Emptied f' k') = let a = nothing (eqb f m) in let b = word-work f k n f' k' m in omega arith

rest-none : (k n : ℕ) (r : Rest) → of_rest (own_credits k n).framed r ≡ 0
rest-none k n rest.None = refl
rest-none k n (rest.Roots next end) = refl
rest-none k n (rest.Items b next over) = refl

stack-none : (k n : ℕ) (frames : List Frame) → of_stack (own_credits k n).framed frames ≡ 0
stack-none k n [] = refl
stack-none k n (frame ∷ frames) = let first = rest-none k n frame.rest in let below = stack-none k n frames in omega arith

rest-work : (shape : Extents) (enrolled : Bool) (m f k n stage from : ℕ) (frames : List Frame) (wait : Option (Context × ℕ)) (r : Rest) → StandsOn shape enrolled m stage from frames wait r →
    cond (eqb n m) (of_rest (works_of f k).framed r) 0 ≤ of_rest (credits_of f k n).framed r
rest-work shape enrolled m f k n stage from frames wait rest.None stands = nothing (eqb n m)
rest-work shape enrolled m f k n stage from frames wait (rest.Roots next end) stands = nothing (eqb n m)
rest-work shape enrolled m f k n stage from frames wait (rest.Items b next over) stands =
    subst (λ j. cond (eqb n j) (one ((f == b.from) && (k == b.stage))) 0 ≤ one (is_word f k n b.from b.stage b.to)) stands.here (word-work f k n b.from b.stage b.to)

stack-work : (shape : Extents) (enrolled : Bool) (m f k n : ℕ) (frames : List Frame) → IsStack shape enrolled m frames →
    cond (eqb n m) (of_stack (works_of f k).framed frames) 0 ≤ of_stack (credits_of f k n).framed frames
stack-work shape enrolled m f k n [] is = nothing (eqb n m)
stack-work shape enrolled m f k n (frame ∷ frames) is =
    let top = rest-work shape enrolled m f k n frame.stage (next_stage frames) frames frame.wait frame.rest is.0.stands in
    let below = stack-work shape enrolled m f k n frames is.1 in
    let both = cond-plus (eqb n m) (of_rest (works_of f k).framed frame.rest) (of_stack (works_of f k).framed frames) in
    omega arith

split : (test : Bool) (a b c : ℕ) → cond test (a + b + c) 0 ≡ cond test a 0 + cond test b 0 + cond test c 0
split true a b c = refl
split false a b c = omega arith

held : (v : State) (f k n : ℕ) → IsWorker v →
    cond (eqb f v.machine) (count (own_credits k n) v) 0 + cond (eqb n v.machine) (count (works_of f k) v) 0 ≤ count (credits_of f k n) v
held v f k n is =
    let m = v.machine in
    let slots = sum-le (λ o. cond (eqb f m) (of_slot (own_credits k n).opened o) 0) (of_slot (credits_of f k n).opened) v.slots.messages (slot-own v.shape m f k n v is.slots) in
    let moved = sum-if (eqb f m) (of_slot (own_credits k n).opened) v.slots.messages in
    let hand = hand-held m f k n v.hand in
    let stack = stack-work v.shape v.enrolled m f k n v.stack is.stack in
    let none = stack-none k n v.stack in
    let empty = all-none (of_slot (works_of f k).opened) v.slots.messages (slot-none f k) in
    let own = split (eqb f m) (total (of_slot (own_credits k n).opened) v.slots.messages) (of_hand (own_credits k n) m v.hand) (of_stack (own_credits k n).framed v.stack) in
    let work = split (eqb n m) (total (of_slot (works_of f k).opened) v.slots.messages) (of_hand (works_of f k) m v.hand) (of_stack (works_of f k).framed v.stack) in
    let gone = ap (λ x. cond (eqb f m) x 0) none in
    let gone2 = ap (λ x. cond (eqb n m) x 0) empty in
    let zero1 = nothing (eqb f m) in
    let zero2 = nothing (eqb n m) in
    omega arith

-- ---- buffers by home
turned : (a b : ℕ) → one (a == b) ≡ one (b == a)
turned a b = grind (arith, nat_tests)

slot-home : (h : ℕ) (o : Option Message) → of_slot (turn.homes_of h).opened o ≡ of_slot (buffers_of h).opened o
slot-home h None = refl
slot-home h (Some b) = turned h b.items.home

hand-home : (h m : ℕ) (hand : Hand) → of_hand (turn.homes_of h) m hand ≡ of_hand (buffers_of h) m hand
hand-home h m Free = refl
hand-home h m (Charged k n) = refl
hand-home h m (Posted b) = turned h b.items.home
hand-home h m (Popped b) = turned h b.items.home
hand-home h m (Emptied f k) = refl

rest-home : (h : ℕ) (r : Rest) → of_rest (turn.homes_of h).framed r ≡ of_rest (buffers_of h).framed r
rest-home h rest.None = refl
rest-home h (rest.Roots next end) = refl
rest-home h (rest.Items b next over) = turned h b.items.home

stack-home : (h : ℕ) (frames : List Frame) → of_stack (turn.homes_of h).framed frames ≡ of_stack (buffers_of h).framed frames
stack-home h [] = refl
stack-home h (frame ∷ frames) = let first = rest-home h frame.rest in let below = stack-home h frames in omega arith

homes : (h : ℕ) (v : State) → count (turn.homes_of h) v ≡ count (buffers_of h) v
homes h v =
    let slots = sum-same (of_slot (turn.homes_of h).opened) (of_slot (buffers_of h).opened) v.slots.messages (slot-home h) in
    let hand = hand-home h v.machine v.hand in
    let stack = stack-home h v.stack in
    omega arith

-- ---- what a worker holds, as the plain fabric has it
abbrev holding_of : State → Holding
holding_of v =
    record {
      enrolled = v.enrolled;
      opens = λ k n. count (own_credits k n) v;
      works = λ f k. count (works_of f k) v;
      buffers = λ h. count (turn.homes_of h) v;
      ended = false;
      closed = v.marks.stage;
      marked = is_marked v.marks;
      looked = false;
    }

low-or-high : (m n : ℕ) → (m < n) ⊎ (n ≤ m)
low-or-high m n = go (ltb m n) refl
  where
    go : (b : Bool) → ltb m n ≡ b → (m < n) ⊎ (n ≤ m)
    go true e = inl (grind (arith, nat_tests, e))
    go false e = inr (grind (arith, nat_tests, e))

cursors-low : (s : Shared) (m : ℕ) → length s.cursors ≡ s.shape.machines → (m < s.shape.machines → cursor_at s m ≤ roots_at s m) → cursor_at s m ≤ roots_at s m
cursors-low s m size inside = go (low-or-high m s.shape.machines)
  where
    go : (m < s.shape.machines) ⊎ (s.shape.machines ≤ m) → cursor_at s m ≤ roots_at s m
    go (inl low) = inside low
    go (inr high) = let past = get_or_past s.cursors m 0 (omega arith) in omega arith

agrees : (w : World) (i : ℕ) (v : State) → Sound w → slice_get w.workers i ≡ Some v → PlainAgrees w.shared v.number (holding_of v)
agrees w i v sound at =
    let s = w.shared in
    let part = sound-part w i v sound at in
    let here : v.machine ≡ machine_of s v.number = part.placed.machine in
    record {
      shared = sound.tables;
      worker_in = part.there;
      credits = λ f k n unit.
          let all = part.credits f k n unit in
          let mine = held v f k n (sound.own i v at) in
          subst (λ m. flying_at s f k n + (cond (eqb f m) (count (own_credits k n) v) 0 + cond (eqb n m) (count (works_of f k) v) 0) ≤ used_at s f k n) here (omega arith);
      enrolled = λ e. subst (λ m. 0 < slice_index s.enrolled m) here (part.enrolled e);
      buffers = λ h low.
          let all = sound.pools h low in
          let mine = total-at (count (buffers_of h)) w.workers i v at in
          let same = homes h v in
          omega arith;
      messages = λ m k j waiting message is there.
          let found = inbox-is s m k waiting is in
          sound.messages m k j waiting message found.stage found.at there;
      cursors = λ m. cursors-low s m sound.tables.cursors (sound.cursors m);
      ended = λ e. absurd (false≢true e);
      closed = (sound.marks i v at).stage;
      looked = λ e. absurd (false≢true e);
    }

-- later roots of a frame are the machine's where those claimed are
rest-rises : (low high : ℕ) (r : Rest) → low ≤ high → RestWithin low r → RestWithin high r
rest-rises low high rest.None up within = tt
rest-rises low high (rest.Roots next end) up within = omega arith
rest-rises low high (rest.Items b next over) up within = tt

roots-rise : (low high : ℕ) (frames : List Frame) → low ≤ high → WithinRoots low frames → WithinRoots high frames
roots-rise low high [] up within = tt
roots-rise low high (frame ∷ frames) up within = (rest-rises low high frame.rest up within.0, roots-rise low high frames up within.1)

number-place : (w : World) (i : ℕ) (v : State) → Sound w → slice_get w.workers i ≡ Some v → v.machine ≡ v.number / v.shape.workers
number-place w i v sound at =
    let placed = sound.placed i v at in
    placed.machine ∙ ap (λ j. j / w.shared.shape.workers) (sym placed.number) ∙ ap (λ (x : Extents). v.number / x.workers) (sym placed.shape)

fits : (tree : Tree) (w : World) (i : ℕ) (v : State) → IsTree tree → Sound w → Fits tree w.shared → slice_get w.workers i ≡ Some v →
    turn.Fits PlainAgrees plain_shape roots_at tree v w.shared
fits tree w i v law sound fitting at =
    let placed = sound.placed i v at in
    let low = machine-in w i v sound at in
    let most = sound.cursors v.machine low in
    let same = fitting.same_roots v.machine low in
    record {
      worker = sound.own i v at;
      number = number-place w i v sound at;
      within = roots-rise (cursor_at w.shared v.machine) (tree.roots v.machine) v.stack (omega arith) (sound.claimed i v at);
      tree_fits = subst (λ x. TreeFits tree x) (sym placed.shape) (record { law = law; same_stages = sym fitting.stages; same_machines = sym fitting.machines });
      same_shape = sym placed.shape;
      same_roots = λ m inside. fitting.same_roots m (let e = ap (λ (x : Extents). x.machines) placed.shape in omega arith);
      holding = holding_of v;
      holds = record {
        enrolled = refl;
        opens = λ k n. refl;
        works = λ f k. refl;
        buffers = λ h. refl;
        seen = omega arith;
        marked = λ e word. refl;
        unmarked = λ less word. absurd
            (omega arith);
      };
      agreed = agrees w i v sound at;
    }

pub workers_may_turn : WorkersMayTurn
workers_may_turn shape t events w i v is law stages machines run at =
    let keeps = run-keeps t events (start_world shape t) w law (start-sound shape t is) (start-fits shape t stages machines) run in
    fits t w i v law keeps.sound keeps.fits at
