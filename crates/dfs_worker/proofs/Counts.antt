-- What each event does to the buffers and credits that its worker holds.
use Rattle.std.proofs.Common.{◌≡◌, ℕ, ◌+◌, ◌<◌, Bool, true, false, cond, List, [], ◌∷◌, length, get_or, Option, Some, None, refl, ap, ◌∙◌, arith}
use Rattle.std.specs.Prelude.{nat_lt, nat_eq, slice_set, not}
use Rattle.match_context.specs.Bags.{total}
use Rattle.match_context.specs.Batch.{Batch}
use Rattle.match_context.specs.declared.context.Context.{Context}
use Rattle.match_context.specs.declared.expand.Next.{Next}
use Rattle.match_context.specs.declared.expand.Next.TheVariants.{Child, Row, Skip, End}
use Rattle.match_context.specs.declared.frame.Frame.{Frame}
use Rattle.match_context.specs.declared.frame.Rest.{Rest}
use Rattle.match_context.specs.declared.frame.Rest.TheVariants as rest
use Rattle.match_context.specs.declared.message.Message.{Message}
use Rattle.match_context.specs.Tree.{Tree, after}
use Rattle.dfs_worker.specs.declared.event.Event.TheVariants as event
use Rattle.dfs_worker.specs.declared.guard.Guard.TheVariants as guard
use Rattle.dfs_worker.specs.declared.hand.Hand.TheVariants.{Free, Charged, Popped}
use Rattle.dfs_worker.specs.Census.{Census, of_message, of_slot, of_rest, of_stack, of_hand, count}
use Rattle.dfs_worker.specs.Guards.{own_guard}
use Rattle.dfs_worker.specs.Own.{claimed, retired, ended, stepped, onto, answer_at, frames_after, advanced, descended, descended_by, appended, appended_by, charged, opened_with, fetched, fetched_for, posted, posted_by, freed, popped, message_frame, picked, picked_by, restored, restored_by}
use Rattle.dfs_worker.specs.Slots.{Slots, slot_of, open_at, is_open, has_room, added, added_to}
use Rattle.dfs_worker.specs.Sound.{IsWorker}
use Rattle.dfs_worker.specs.State.{State, waiting}
use Rattle.dfs_worker.proofs.Facts.{Waits, Ends, Charges, child-facts, charges-facts}
use Rattle.dfs_worker.proofs.Keeps.{descended-is, appended-is, charged-is, fetched-is, posted-is, picked-is, restored-is}
use Rattle.dfs_worker.proofs.Places.{open-facts, none-facts, slot-within, total-set_or}

-- ---- slots
slot-changed : (census : Census) (slots : Slots) (at : ℕ) (message : Option Message) → at < length slots.messages →
    total (of_slot census.opened) (slice_set slots.messages at message) + of_slot census.opened (get_or slots.messages at None)
    ≡ total (of_slot census.opened) slots.messages + of_slot census.opened message
slot-changed census slots at message h = total-set_or (of_slot census.opened) slots.messages at message None h

-- ---- events without a change
pub claimed-count : (census : Census) (tree : Tree) (worker : State) (first end : ℕ) → count census (claimed tree first end worker) ≡ count census worker
claimed-count census tree worker first end = omega arith

pub retired-count : (census : Census) (worker : State) → count census (retired worker) ≡ count census worker
retired-count census worker = refl

ended-count : (census : Census) (tree : Tree) (machine : ℕ) (frame : Frame) (frames : List Frame) (r : Rest) →
    of_stack census.framed (onto (ended tree machine frame r) frames) ≡ of_rest census.framed r + of_stack census.framed frames
ended-count census tree machine frame frames rest.None = omega arith
ended-count census tree machine frame frames (rest.Roots next end) = go (nat_lt next end)
  where
    go : (b : Bool) → of_stack census.framed (onto (cond b (Some (record frame { context = tree.root machine next; place = 0; rest = rest.Roots (next + 1) end })) None) frames) ≡ 0 + of_stack census.framed frames
    go true = refl
    go false = omega arith
ended-count census tree machine frame frames (rest.Items message next over) = go (nat_lt next (length message.items.items))
  where
    go : (b : Bool) → of_stack census.framed (onto (cond b (Some (record frame { context = get_or message.items.items next frame.context; place = 0; rest = rest.Items message (next + 1) over })) (Some (record frame { rest = rest.Items message next true }))) frames)
        ≡ of_message census.framed message + of_stack census.framed frames
    go true = refl
    go false = refl

stepped-count : (census : Census) (tree : Tree) (machine : ℕ) (frame : Frame) (frames : List Frame) (next : Next) →
    of_stack census.framed (onto (stepped tree machine (after tree machine frame) next) frames) ≡ of_rest census.framed frame.rest + of_stack census.framed frames
stepped-count census tree machine frame frames (Child context to) = refl
stepped-count census tree machine frame frames (Row context) = refl
stepped-count census tree machine frame frames Skip = refl
stepped-count census tree machine frame frames End = ended-count census tree machine (after tree machine frame) frames frame.rest

after-count : (census : Census) (tree : Tree) (machine : ℕ) (frames : List Frame) → of_stack census.framed (frames_after tree machine frames) ≡ of_stack census.framed frames
after-count census tree machine [] = refl
after-count census tree machine (frame ∷ frames) = stepped-count census tree machine frame frames (answer_at tree machine frame)

pub advanced-count : (census : Census) (tree : Tree) (worker : State) → count census (advanced tree worker) ≡ count census worker
advanced-count census tree worker = rw (after-count census tree worker.machine worker.stack) refl

descended-waits : (census : Census) (worker : State) (frame : Frame) (frames : List Frame) (child : Context × ℕ) → Waits worker frame frames child →
    count census (descended_by worker frame frames (Some child)) ≡ count census worker
descended-waits census worker frame frames child at = rw at.stack (omega arith)

pub descended-count : (census : Census) (worker : State) → own_guard (event.Descend 0) worker ≡ None → count census (descended worker) ≡ count census worker
descended-count census worker own =
    let at = child-facts worker (λ stage to. nat_eq to worker.machine) guard.Local own in
    ap (count census) (descended-is worker at.0 at.1.0 at.1.1.0 at.1.1.1.0) ∙ descended-waits census worker at.0 at.1.0 at.1.1.0 at.1.1.1.0

added-count : (census : Census) (worker : State) (stage to : ℕ) (context : Context) (o : Option Message) → IsWorker worker → open_at worker.slots stage to ≡ o →
    total (of_slot census.opened) (added_to worker.slots stage to context o).messages ≡ total (of_slot census.opened) worker.slots.messages
added-count census worker stage to context None h e = refl
added-count census worker stage to context (Some message) h e =
    let at = open-facts worker.slots stage to message e in
    let within = slot-within worker.shape worker.machine worker.slots stage to h.slots at.stage_in at.to_in in
    let changed = slot-changed census worker.slots (slot_of worker.slots.machines stage to) (Some (added context message)) within in
    let here = ap (of_slot census.opened) at.here in
    omega arith

appended-waits : (census : Census) (worker : State) (frame : Frame) (frames : List Frame) (child : Context × ℕ) → IsWorker worker → Waits worker frame frames child →
    count census (appended_by worker frame frames (Some child)) ≡ count census worker
appended-waits census worker frame frames child h at =
    let slots = added-count census worker (frame.stage + 1) child.1 child.0 (open_at worker.slots (frame.stage + 1) child.1) h refl in
    rw at.stack (omega arith)

pub appended-count : (census : Census) (worker : State) → IsWorker worker → own_guard (event.Append 0) worker ≡ None → count census (appended worker) ≡ count census worker
appended-count census worker h own =
    let at = child-facts worker (has_room worker.slots) guard.Room own in
    ap (count census) (appended-is worker at.0 at.1.0 at.1.1.0 at.1.1.1.0) ∙ appended-waits census worker at.0 at.1.0 at.1.1.0 h at.1.1.1.0

-- ---- credits and buffers
-- a credit more
pub charged-count : (census : Census) (worker : State) (child : ℕ × ℕ) → own_guard (event.Charge 0) worker ≡ None → waiting worker.stack ≡ Some child →
    count census (charged worker) ≡ count census worker + census.charged worker.machine child.0 child.1
charged-count census worker child own e =
    let at = child-facts worker (λ stage to. not (is_open worker.slots stage to)) guard.Open own in
    let hand = at.1.1.1.0.hand in
    ap (count census) (charged-is worker child e) ∙ (rw hand (omega arith))

fetched-charges : (census : Census) (worker : State) (batch : Batch) (stage to : ℕ) (frame : Frame) (frames : List Frame) (child : Context × ℕ) → IsWorker worker →
    Charges worker stage to frame frames child → open_at worker.slots stage to ≡ None → stage < worker.slots.stages → to < worker.slots.machines →
    count census (fetched_for worker stage to batch frame frames (Some child)) + census.charged worker.machine stage to
    ≡ count census worker + census.opened worker.machine stage to batch.home
fetched-charges census worker batch stage to frame frames child h at none k n =
    let within = slot-within worker.shape worker.machine worker.slots stage to h.slots k n in
    let changed = slot-changed census worker.slots (slot_of worker.slots.machines stage to) (Some (opened_with worker stage to batch child.0)) within in
    let here = ap (of_slot census.opened) (none-facts worker.slots stage to none k n) in
    rw (at.hand, at.stack) (omega arith)

-- a waiting child's stage and machine exist
pub child-exists : (worker : State) (stage to : ℕ) (frame : Frame) (frames : List Frame) (child : Context × ℕ) → IsWorker worker →
    Charges worker stage to frame frames child → (stage < worker.slots.stages) × (to < worker.slots.machines)
child-exists worker stage to frame frames child h at =
    let s = rw at.stack at h.stack in
    let wait = rw at.wait at s.0.wait in
    let low = wait.0 in
    let near = wait.1 in
    let same_stage = at.same_stage in
    let same_to = at.same_to in
    let stages = h.slots.stages in
    let machines = h.slots.machines in
    (omega arith, omega arith)

-- the credit in hand becomes that of an open buffer
pub fetched-count : (census : Census) (worker : State) (batch : Batch) (stage to : ℕ) → IsWorker worker → worker.hand ≡ Charged stage to →
    count census (fetched batch worker) + census.charged worker.machine stage to ≡ count census worker + census.opened worker.machine stage to batch.home
fetched-count census worker batch stage to h e =
    let hand = rw e at h.hand in
    let at = charges-facts worker stage to e hand.0 in
    let exists = child-exists worker stage to at.0 at.1.0 at.1.1.0 h at.1.1.1 in
    ap (λ v. count census v + census.charged worker.machine stage to) (fetched-is worker batch stage to at.0 at.1.0 at.1.1.0 at.1.1.1)
    ∙ fetched-charges census worker batch stage to at.0 at.1.0 at.1.1.0 h at.1.1.1 hand.1 exists.0 exists.1

posted-open : (census : Census) (worker : State) (stage to : ℕ) (message : Message) → IsWorker worker → worker.hand ≡ Free → open_at worker.slots stage to ≡ Some message →
    count census (posted_by worker stage to (Some message)) + of_message census.opened message ≡ count census worker + of_message census.posted message
posted-open census worker stage to message h hand e =
    let at = open-facts worker.slots stage to message e in
    let within = slot-within worker.shape worker.machine worker.slots stage to h.slots at.stage_in at.to_in in
    let changed = slot-changed census worker.slots (slot_of worker.slots.machines stage to) None within in
    let here = ap (of_slot census.opened) at.here in
    rw hand (omega arith)

-- an open buffer comes into the hand
pub posted-count : (census : Census) (worker : State) (stage to : ℕ) (message : Message) → IsWorker worker → worker.hand ≡ Free → open_at worker.slots stage to ≡ Some message →
    count census (posted stage to worker) + of_message census.opened message ≡ count census worker + of_message census.posted message
posted-count census worker stage to message h hand e =
    ap (λ v. count census v + of_message census.opened message) (posted-is worker stage to message e) ∙ posted-open census worker stage to message h hand e

-- what was in hand is gone
pub freed-count : (census : Census) (worker : State) → count census (freed worker) + of_hand census worker.machine worker.hand ≡ count census worker
freed-count census worker = omega arith

-- a message comes into the hand
pub popped-count : (census : Census) (worker : State) (message : Message) → worker.hand ≡ Free → count census (popped message worker) ≡ count census worker + of_message census.popped message
popped-count census worker message e = rw e (omega arith)

framed-count : (census : Census) (message : Message) (contexts : List Context) (frames : List Frame) → 0 < length contexts →
    of_stack census.framed (message_frame message contexts frames) ≡ of_message census.framed message + of_stack census.framed frames
framed-count census message [] frames h = absurd (omega arith)
framed-count census message (context ∷ contexts) frames h = refl

picked-popped : (census : Census) (worker : State) (message : Message) → worker.hand ≡ Popped message → 0 < length message.items.items →
    count census (picked_by worker (Popped message)) + of_message census.popped message ≡ count census worker + of_message census.framed message
picked-popped census worker message e some =
    let framed = framed-count census message message.items.items worker.stack some in
    rw e (omega arith)

-- the message in hand becomes a frame
pub picked-count : (census : Census) (worker : State) (message : Message) → IsWorker worker → worker.hand ≡ Popped message →
    count census (picked worker) + of_message census.popped message ≡ count census worker + of_message census.framed message
picked-count census worker message h e =
    let hand = rw e at h.hand in
    ap (λ v. count census v + of_message census.popped message) (picked-is worker message e) ∙ picked-popped census worker message e hand.2.some

restored-ends : (census : Census) (worker : State) (frame : Frame) (frames : List Frame) (message : Message) (next : ℕ) → Ends worker frame frames message next →
    count census (restored_by worker frames (rest.Items message next true)) + of_message census.framed message
    ≡ count census worker + census.emptied message.from message.stage worker.machine
restored-ends census worker frame frames message next at = rw (at.hand, at.stack, at.rest) (omega arith)

-- a message frame's buffer leaves, and its credit comes into the hand
pub restored-count : (census : Census) (worker : State) (frame : Frame) (frames : List Frame) (message : Message) (next : ℕ) → Ends worker frame frames message next →
    count census (restored worker) + of_message census.framed message ≡ count census worker + census.emptied message.from message.stage worker.machine
restored-count census worker frame frames message next at =
    ap (λ v. count census v + of_message census.framed message) (restored-is worker frame frames message next at)
    ∙ restored-ends census worker frame frames message next at
