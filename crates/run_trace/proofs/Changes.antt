-- What an event changes of what stands outside the pools: of its worker, and of what is shared.
use Rattle.std.proofs.Common.{◌≡◌, ◌∙◌, refl, sym, ap, subst, arith, cond, ℕ, ◌+◌, ◌<◌, Bool, true, false, not, ◌&&◌, List, [], ◌∷◌, length, get_or, Option, Some, None}
use Rattle.std.specs.Prelude.{slice_set, nat_lt, nat_eq}
use Rattle.std.proofs.lemmas.Bool.Decides.{nat_tests}
use Rattle.match_context.specs.Bags.{total}
use Rattle.match_context.specs.Batch.{Batch}
use Rattle.match_context.specs.declared.context.Context.{Context}
use Rattle.match_context.specs.declared.expand.Next.{Next}
use Rattle.match_context.specs.declared.expand.Next.TheVariants.{Child, Row, Skip, End}
use Rattle.match_context.specs.declared.frame.Frame.{Frame}
use Rattle.match_context.specs.declared.frame.Rest.{Rest}
use Rattle.match_context.specs.declared.frame.Rest.TheVariants as rest
use Rattle.match_context.specs.declared.message.Message.{Message}
use Rattle.match_context.specs.Tree.{Tree, after}
use Rattle.dfs_worker.specs.declared.event.Event.TheVariants as event
use Rattle.dfs_worker.specs.declared.guard.Guard.TheVariants as guard
use Rattle.dfs_worker.specs.declared.hand.Hand.TheVariants.{Free, Charged, Popped}
use Rattle.dfs_worker.specs.Guards.{own_guard}
use Rattle.dfs_worker.specs.Own.{claimed, ended, stepped, onto, answer_at, frames_after, advanced, descended, descended_by, appended, appended_by, charged, opened_with, fetched, fetched_for, posted, posted_by, freed, popped, message_frame, picked, picked_by, restored, restored_by}
use Rattle.dfs_worker.specs.Slots.{Slots, slot_of, open_at, is_open, has_room, room_in, added, added_to}
use Rattle.dfs_worker.specs.Sound.{IsWorker}
use Rattle.dfs_worker.specs.State.{State}
use Rattle.dfs_worker.proofs.Facts.{Waits, Ends, Charges, advance-facts, child-facts, charged-facts, charges-facts, waiting-is}
use Rattle.dfs_worker.proofs.Counts.{child-exists}
use Rattle.dfs_worker.proofs.Keeps.{descended-is, appended-is, charged-is, fetched-is, posted-is, picked-is, restored-is}
use Rattle.dfs_worker.proofs.Places.{open-facts, none-facts, slot-within, total-set_or}
use Rattle.world_core.specs.Gauge.{at_frame, at_worker, in_frame, in_hand, in_rest, in_slot, in_worker}
use Rattle.run_trace.specs.Gauging.{one_if, top_in}

-- ---- claim
pub claimed-in : (number : Message → ℕ) (tree : Tree) (v : State) (first end : ℕ) → in_worker number (claimed tree first end v) ≡ in_worker number v
claimed-in number tree v first end = omega arith

pub claimed-at : (tree : Tree) (v : State) (first end : ℕ) → at_worker (claimed tree first end v) ≡ at_worker v + 1
claimed-at tree v first end = omega arith

-- ---- advance
ended-in : (number : Message → ℕ) (tree : Tree) (machine : ℕ) (frame : Frame) (frames : List Frame) (r : Rest) →
    total (in_frame number) (onto (ended tree machine frame r) frames) ≡ in_rest number r + total (in_frame number) frames
ended-in number tree machine frame frames rest.None = omega arith
ended-in number tree machine frame frames (rest.Roots next end) = go (nat_lt next end)
  where
    go : (b : Bool) → total (in_frame number) (onto (cond b (Some (record frame { context = tree.root machine next; place = 0; rest = rest.Roots (next + 1) end })) None) frames) ≡ 0 + total (in_frame number) frames
    go true = refl
    go false = omega arith
ended-in number tree machine frame frames (rest.Items message next over) = go (nat_lt next (length message.items.items))
  where
    go : (b : Bool) → total (in_frame number) (onto (cond b (Some (record frame { context = get_or message.items.items next frame.context; place = 0; rest = rest.Items message (next + 1) over })) (Some (record frame { rest = rest.Items message next true }))) frames)
        ≡ number message + total (in_frame number) frames
    go true = refl
    go false = refl

stepped-in : (number : Message → ℕ) (tree : Tree) (machine : ℕ) (frame : Frame) (frames : List Frame) (next : Next) →
    total (in_frame number) (onto (stepped tree machine (after tree machine frame) next) frames) ≡ in_rest number frame.rest + total (in_frame number) frames
stepped-in number tree machine frame frames (Child context to) = refl
stepped-in number tree machine frame frames (Row context) = refl
stepped-in number tree machine frame frames Skip = refl
stepped-in number tree machine frame frames End = ended-in number tree machine (after tree machine frame) frames frame.rest

after-in : (number : Message → ℕ) (tree : Tree) (machine : ℕ) (frames : List Frame) → total (in_frame number) (frames_after tree machine frames) ≡ total (in_frame number) frames
after-in number tree machine [] = refl
after-in number tree machine (frame ∷ frames) = stepped-in number tree machine frame frames (answer_at tree machine frame)

pub advanced-in : (number : Message → ℕ) (tree : Tree) (v : State) → in_worker number (advanced tree v) ≡ in_worker number v
advanced-in number tree v = rw (after-in number tree v.machine v.stack) refl

-- The contexts in frames change so, by the tops.
pub record AtMoves (old new : List Frame) : Type 0 where
  pub count : total at_frame new + one_if (nat_lt (top_in new).frames (top_in old).frames)
      ≡ total at_frame old + one_if (not (nat_lt (top_in new).frames (top_in old).frames) && (top_in new).waits)

not-below : (n : ℕ) → nat_lt n n ≡ false
not-below n = grind (arith, nat_tests)

kept-at : (frame f : Frame) (frames : List Frame) → frame.wait ≡ None → f.wait ≡ None → AtMoves (frame ∷ frames) (f ∷ frames)
kept-at frame f frames old new =
    let no : nat_lt (length (f ∷ frames)) (length (frame ∷ frames)) ≡ false = not-below (length (frame ∷ frames)) in
    record { count = rw (no, old, new) refl }

child-at : (frame f : Frame) (frames : List Frame) (child : Context × ℕ) → frame.wait ≡ None → f.wait ≡ Some child → AtMoves (frame ∷ frames) (f ∷ frames)
child-at frame f frames child old new =
    let no : nat_lt (length (f ∷ frames)) (length (frame ∷ frames)) ≡ false = not-below (length (frame ∷ frames)) in
    record { count = rw (no, old, new) (omega arith) }

tops : (frames : List Frame) → (top_in frames).frames ≡ length frames
tops [] = refl
tops (frame ∷ frames) = refl

gone-at : (frame : Frame) (frames : List Frame) → frame.wait ≡ None → AtMoves (frame ∷ frames) frames
gone-at frame frames old =
    let size = tops frames in
    let yes : nat_lt (top_in frames).frames (length (frame ∷ frames)) ≡ true = rw size (grind (arith, nat_tests)) in
    record { count = rw (yes, old) (omega arith) }

ended-at : (tree : Tree) (machine : ℕ) (first frame : Frame) (frames : List Frame) (r : Rest) → first.wait ≡ None → frame.wait ≡ None →
    AtMoves (first ∷ frames) (onto (ended tree machine frame r) frames)
ended-at tree machine first frame frames rest.None old new = gone-at first frames old
ended-at tree machine first frame frames (rest.Roots next end) old new = go (nat_lt next end)
  where
    go : (b : Bool) → AtMoves (first ∷ frames) (onto (cond b (Some (record frame { context = tree.root machine next; place = 0; rest = rest.Roots (next + 1) end })) None) frames)
    go true = kept-at first _ frames old new
    go false = gone-at first frames old
ended-at tree machine first frame frames (rest.Items message next over) old new = go (nat_lt next (length message.items.items))
  where
    go : (b : Bool) → AtMoves (first ∷ frames) (onto (cond b (Some (record frame { context = get_or message.items.items next frame.context; place = 0; rest = rest.Items message (next + 1) over })) (Some (record frame { rest = rest.Items message next true }))) frames)
    go true = kept-at first _ frames old new
    go false = kept-at first _ frames old new

stepped-at : (tree : Tree) (machine : ℕ) (frame : Frame) (frames : List Frame) (next : Next) → frame.wait ≡ None →
    AtMoves (frame ∷ frames) (onto (stepped tree machine (after tree machine frame) next) frames)
stepped-at tree machine frame frames (Child context to) old = child-at frame _ frames (context, to) old refl
stepped-at tree machine frame frames (Row context) old = kept-at frame _ frames old old
stepped-at tree machine frame frames Skip old = kept-at frame _ frames old old
stepped-at tree machine frame frames End old = ended-at tree machine frame (after tree machine frame) frames frame.rest old old

pub advanced-at : (tree : Tree) (v : State) → own_guard (event.Advance 0) v ≡ None → AtMoves v.stack (advanced tree v).stack
advanced-at tree v own =
    let f = advance-facts v own in
    subst (λ s. AtMoves s (frames_after tree v.machine s)) (sym f.1.1.stack) (stepped-at tree v.machine f.0 f.1.0 (answer_at tree v.machine f.0) f.1.1.wait)

-- ---- descend
descended-waits : (number : Message → ℕ) (v : State) (frame : Frame) (frames : List Frame) (child : Context × ℕ) → Waits v frame frames child →
    in_worker number (descended_by v frame frames (Some child)) ≡ in_worker number v
descended-waits number v frame frames child at = rw at.stack (omega arith)

descended-stands : (v : State) (frame : Frame) (frames : List Frame) (child : Context × ℕ) → Waits v frame frames child →
    at_worker (descended_by v frame frames (Some child)) ≡ at_worker v
descended-stands v frame frames child at = rw (at.stack, at.wait) (omega arith)

pub descended-in : (number : Message → ℕ) (v : State) → own_guard (event.Descend 0) v ≡ None → in_worker number (descended v) ≡ in_worker number v
descended-in number v own =
    let f = child-facts v (λ stage to. nat_eq to v.machine) guard.Local own in
    ap (in_worker number) (descended-is v f.0 f.1.0 f.1.1.0 f.1.1.1.0) ∙ descended-waits number v f.0 f.1.0 f.1.1.0 f.1.1.1.0

pub descended-at : (v : State) → own_guard (event.Descend 0) v ≡ None → at_worker (descended v) ≡ at_worker v
descended-at v own =
    let f = child-facts v (λ stage to. nat_eq to v.machine) guard.Local own in
    ap at_worker (descended-is v f.0 f.1.0 f.1.1.0 f.1.1.1.0) ∙ descended-stands v f.0 f.1.0 f.1.1.0 f.1.1.1.0

-- ---- append
room-some : (o : Option Message) → room_in o ≡ true → (message : Message) × (o ≡ Some message)
room-some None e = cc
room-some (Some message) e = (message, refl)

slot-changed : (number : Message → ℕ) (slots : Slots) (at : ℕ) (message : Option Message) → at < length slots.messages →
    total (in_slot number) (slice_set slots.messages at message) + in_slot number (get_or slots.messages at None)
    ≡ total (in_slot number) slots.messages + in_slot number message
slot-changed number slots at message within = total-set_or (in_slot number) slots.messages at message None within

added-in : (number : Message → ℕ) (v : State) (stage to : ℕ) (context : Context) (o : Option Message) (message : Message) → IsWorker v → open_at v.slots stage to ≡ Some message →
    o ≡ Some message →
    total (in_slot number) (added_to v.slots stage to context o).messages + number message ≡ total (in_slot number) v.slots.messages + number (added context message)
added-in number v stage to context o message h there e =
    let at = open-facts v.slots stage to message there in
    let within = slot-within v.shape v.machine v.slots stage to h.slots at.stage_in at.to_in in
    let changed = slot-changed number v.slots (slot_of v.slots.machines stage to) (Some (added context message)) within in
    let here = ap (in_slot number) at.here in
    rw e (omega arith)

pub record Appends (v : State) : Type 0 where
  pub message : Message
  pub context : Context
  pub counts : (number : Message → ℕ) → in_worker number (appended v) + number message ≡ in_worker number v + number (added context message)
  pub stands : at_worker (appended v) + 1 ≡ at_worker v

appended-waits : (number : Message → ℕ) (v : State) (frame : Frame) (frames : List Frame) (child : Context × ℕ) (message : Message) → IsWorker v → Waits v frame frames child →
    open_at v.slots (frame.stage + 1) child.1 ≡ Some message →
    in_worker number (appended_by v frame frames (Some child)) + number message ≡ in_worker number v + number (added child.0 message)
appended-waits number v frame frames child message h at there =
    let slots = added-in number v (frame.stage + 1) child.1 child.0 (open_at v.slots (frame.stage + 1) child.1) message h there there in
    rw at.stack (omega arith)

appended-stands : (v : State) (frame : Frame) (frames : List Frame) (child : Context × ℕ) → Waits v frame frames child →
    at_worker (appended_by v frame frames (Some child)) + 1 ≡ at_worker v
appended-stands v frame frames child at = rw (at.stack, at.wait) (omega arith)

pub appends : (v : State) → IsWorker v → own_guard (event.Append 0) v ≡ None → Appends v
appends v h own =
    let f = child-facts v (has_room v.slots) guard.Room own in
    let frame = f.0 in
    let frames = f.1.0 in
    let child = f.1.1.0 in
    let waits = f.1.1.1.0 in
    let message = room-some (open_at v.slots (frame.stage + 1) child.1) f.1.1.1.1 in
    record {
      message = message.0;
      context = child.0;
      counts = λ number. ap (λ u. in_worker number u + number message.0) (appended-is v frame frames child waits) ∙ appended-waits number v frame frames child message.0 h waits message.1;
      stands = ap (λ u. at_worker u + 1) (appended-is v frame frames child waits) ∙ appended-stands v frame frames child waits;
    }

-- ---- charge
charged-free : (number : Message → ℕ) (v : State) (child : ℕ × ℕ) → v.hand ≡ Free → in_worker number (record v { hand = Charged child.0 child.1 }) ≡ in_worker number v
charged-free number v child hand = rw hand (omega arith)

pub charged-in : (number : Message → ℕ) (v : State) → own_guard (event.Charge 0) v ≡ None → in_worker number (charged v) ≡ in_worker number v
charged-in number v own =
    let f = child-facts v (λ stage to. not (is_open v.slots stage to)) guard.Open own in
    let waits = f.1.1.1.0 in
    let child : ℕ × ℕ = (f.0.stage + 1, f.1.1.0.1) in
    ap (in_worker number) (charged-is v child (waiting-is v f.0 f.1.0 f.1.1.0 waits)) ∙ charged-free number v child waits.hand

pub charged-at : (v : State) → own_guard (event.Charge 0) v ≡ None → at_worker (charged v) ≡ at_worker v
charged-at v own =
    let f = child-facts v (λ stage to. not (is_open v.slots stage to)) guard.Open own in
    ap at_worker (charged-is v (f.0.stage + 1, f.1.1.0.1) (waiting-is v f.0 f.1.0 f.1.1.0 f.1.1.1.0))

-- ---- fetch
pub record Fetches (batch : Batch) (v : State) : Type 0 where
  pub stage : ℕ
  pub to : ℕ
  pub context : Context
  pub counts : (number : Message → ℕ) → in_worker number (fetched batch v) ≡ in_worker number v + number (opened_with v stage to batch context)
  pub stands : at_worker (fetched batch v) + 1 ≡ at_worker v

fetched-charges : (number : Message → ℕ) (v : State) (batch : Batch) (stage to : ℕ) (frame : Frame) (frames : List Frame) (child : Context × ℕ) → IsWorker v →
    Charges v stage to frame frames child → open_at v.slots stage to ≡ None → stage < v.slots.stages → to < v.slots.machines →
    in_worker number (fetched_for v stage to batch frame frames (Some child)) ≡ in_worker number v + number (opened_with v stage to batch child.0)
fetched-charges number v batch stage to frame frames child h at none low near =
    let within = slot-within v.shape v.machine v.slots stage to h.slots low near in
    let changed = slot-changed number v.slots (slot_of v.slots.machines stage to) (Some (opened_with v stage to batch child.0)) within in
    let here = ap (in_slot number) (none-facts v.slots stage to none low near) in
    rw (at.hand, at.stack) (omega arith)

fetched-stands : (v : State) (batch : Batch) (stage to : ℕ) (frame : Frame) (frames : List Frame) (child : Context × ℕ) → Charges v stage to frame frames child →
    at_worker (fetched_for v stage to batch frame frames (Some child)) + 1 ≡ at_worker v
fetched-stands v batch stage to frame frames child at = rw (at.stack, at.wait) (omega arith)

pub fetches : (batch : Batch) (v : State) → IsWorker v → own_guard (event.Fetch 0) v ≡ None → Fetches batch v
fetches batch v h own =
    let hands = charged-facts v own in
    let stage = hands.0 in
    let to = hands.1.0 in
    let hand = rw hands.1.1 at h.hand in
    let f = charges-facts v stage to hands.1.1 hand.0 in
    let exists = child-exists v stage to f.0 f.1.0 f.1.1.0 h f.1.1.1 in
    let is = fetched-is v batch stage to f.0 f.1.0 f.1.1.0 f.1.1.1 in
    record {
      stage = stage;
      to = to;
      context = f.1.1.0.0;
      counts = λ number. ap (in_worker number) is ∙ fetched-charges number v batch stage to f.0 f.1.0 f.1.1.0 h f.1.1.1 hand.1 exists.0 exists.1;
      stands = ap (λ u. at_worker u + 1) is ∙ fetched-stands v batch stage to f.0 f.1.0 f.1.1.0 f.1.1.1;
    }

-- ---- post
posted-open : (number : Message → ℕ) (v : State) (stage to : ℕ) (message : Message) → IsWorker v → v.hand ≡ Free → open_at v.slots stage to ≡ Some message →
    in_worker number (posted_by v stage to (Some message)) ≡ in_worker number v
posted-open number v stage to message h hand e =
    let at = open-facts v.slots stage to message e in
    let within = slot-within v.shape v.machine v.slots stage to h.slots at.stage_in at.to_in in
    let changed = slot-changed number v.slots (slot_of v.slots.machines stage to) None within in
    let here = ap (in_slot number) at.here in
    rw hand (omega arith)

pub posted-in : (number : Message → ℕ) (v : State) (stage to : ℕ) (message : Message) → IsWorker v → v.hand ≡ Free → open_at v.slots stage to ≡ Some message →
    in_worker number (posted stage to v) ≡ in_worker number v
posted-in number v stage to message h hand e = ap (in_worker number) (posted-is v stage to message e) ∙ posted-open number v stage to message h hand e

pub posted-at : (v : State) (stage to : ℕ) (message : Message) → open_at v.slots stage to ≡ Some message → at_worker (posted stage to v) ≡ at_worker v
posted-at v stage to message e = ap at_worker (posted-is v stage to message e)

-- ---- push and discharge
pub freed-in : (number : Message → ℕ) (v : State) → in_worker number (freed v) + in_hand number v.hand ≡ in_worker number v
freed-in number v = omega arith

-- ---- pop
pub popped-in : (number : Message → ℕ) (v : State) (message : Message) → v.hand ≡ Free → in_worker number (popped message v) ≡ in_worker number v + number message
popped-in number v message e = rw e (omega arith)

-- ---- pick
framed-in : (number : Message → ℕ) (message : Message) (contexts : List Context) (frames : List Frame) → 0 < length contexts →
    total (in_frame number) (message_frame message contexts frames) ≡ number message + total (in_frame number) frames
framed-in number message [] frames h = absurd (omega arith)
framed-in number message (context ∷ contexts) frames h = refl

framed-at : (message : Message) (contexts : List Context) (frames : List Frame) → 0 < length contexts →
    total at_frame (message_frame message contexts frames) ≡ total at_frame frames + 1
framed-at message [] frames h = absurd (omega arith)
framed-at message (context ∷ contexts) frames h = omega arith

picked-popped : (number : Message → ℕ) (v : State) (message : Message) → v.hand ≡ Popped message → 0 < length message.items.items →
    in_worker number (picked_by v (Popped message)) ≡ in_worker number v
picked-popped number v message e some =
    let framed = framed-in number message message.items.items v.stack some in
    rw e (omega arith)

pub picked-in : (number : Message → ℕ) (v : State) (message : Message) → IsWorker v → v.hand ≡ Popped message → in_worker number (picked v) ≡ in_worker number v
picked-in number v message h e =
    let hand = rw e at h.hand in
    ap (in_worker number) (picked-is v message e) ∙ picked-popped number v message e hand.2.some

pub picked-at : (v : State) (message : Message) → IsWorker v → v.hand ≡ Popped message → at_worker (picked v) ≡ at_worker v + 1
picked-at v message h e =
    let hand = rw e at h.hand in
    ap at_worker (picked-is v message e) ∙ framed-at message message.items.items v.stack hand.2.some

-- ---- restore
restored-ends : (number : Message → ℕ) (v : State) (frame : Frame) (frames : List Frame) (message : Message) (next : ℕ) → Ends v frame frames message next →
    in_worker number (restored_by v frames (rest.Items message next true)) + number message ≡ in_worker number v
restored-ends number v frame frames message next at = rw (at.hand, at.stack, at.rest) (omega arith)

pub restored-in : (number : Message → ℕ) (v : State) (frame : Frame) (frames : List Frame) (message : Message) (next : ℕ) → Ends v frame frames message next →
    in_worker number (restored v) + number message ≡ in_worker number v
restored-in number v frame frames message next at =
    ap (λ u. in_worker number u + number message) (restored-is v frame frames message next at) ∙ restored-ends number v frame frames message next at

restored-stands : (v : State) (frame : Frame) (frames : List Frame) (message : Message) (next : ℕ) → Ends v frame frames message next → frame.wait ≡ None →
    at_worker (restored_by v frames (rest.Items message next true)) + 1 ≡ at_worker v
restored-stands v frame frames message next at none = rw (at.stack, none) (omega arith)

-- a message frame that is over waits with no child
over-waits : (v : State) (frame : Frame) (frames : List Frame) (message : Message) (next : ℕ) → IsWorker v → Ends v frame frames message next → frame.wait ≡ None
over-waits v frame frames message next h at =
    let stack = rw at.stack at h.stack in
    let stands = rw at.rest at stack.0.stands in
    stands.through.settled refl

pub restored-at : (v : State) (frame : Frame) (frames : List Frame) (message : Message) (next : ℕ) → IsWorker v → Ends v frame frames message next → at_worker (restored v) + 1 ≡ at_worker v
restored-at v frame frames message next h at =
    ap (λ u. at_worker u + 1) (restored-is v frame frames message next at) ∙ restored-stands v frame frames message next at (over-waits v frame frames message next h at)

pub restored-held : (v : State) (frame : Frame) (frames : List Frame) (message : Message) (next : ℕ) → Ends v frame frames message next → (top_in v.stack).held ≡ length message.items.items
restored-held v frame frames message next at = rw (at.stack, at.rest) refl
