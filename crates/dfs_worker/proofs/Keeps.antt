-- What each event keeps of its worker.
use Rattle.std.proofs.Common.{◌≡◌, ℕ, ◌+◌, ◌≤◌, Bool, true, false, cond, List, [], ◌∷◌, length, Option, Some, None, refl, sym, ap, ◌∙◌, subst, arith}
use Rattle.std.specs.Prelude.{nat_lt, nat_eq}
use Rattle.adfs_base.specs.Shape.{Extents}
use Rattle.fabric.specs.Calls.{IsMessageOf}
use Rattle.match_context.specs.Batch.{Batch}
use Rattle.match_context.specs.declared.context.Context.{Context}
use Rattle.match_context.specs.declared.frame.Frame.{Frame}
use Rattle.match_context.specs.declared.frame.Rest.{Rest}
use Rattle.match_context.specs.declared.frame.Rest.TheVariants as rest
use Rattle.match_context.specs.declared.message.Message.{Message}
use Rattle.match_context.specs.Tree.{Tree}
use Rattle.stage_termination.specs.Marks.{Marks, unmarked}
use Rattle.adfs_base.specs.declared.step_answers.Word.{Word}
use Rattle.dfs_worker.specs.declared.event.Event.TheVariants as event
use Rattle.dfs_worker.specs.declared.guard.Guard.TheVariants as guard
use Rattle.dfs_worker.specs.declared.hand.Hand.{Hand}
use Rattle.dfs_worker.specs.declared.hand.Hand.TheVariants.{Free, Charged, Posted, Popped, Emptied}
use Rattle.dfs_worker.specs.Guards.{own_guard}
use Rattle.dfs_worker.specs.Own.{
  root_frame,
  claimed,
  retired,
  child_frame,
  descended,
  descended_at,
  descended_by,
  appended,
  appended_at,
  appended_by,
  charged,
  charged_for,
  opened_with,
  fetched,
  fetched_by,
  fetched_at,
  fetched_for,
  posted,
  posted_by,
  freed,
  popped,
  message_frame,
  picked,
  picked_by,
  restored,
  restored_at,
  restored_by,
  marked,
  moved,
}
use Rattle.dfs_worker.specs.Slots.{Slots, slot_of, open_at, is_open, has_room, room_in, with_slot, with_context, added, added_to}
use Rattle.dfs_worker.specs.Sound.{IsPacket, IsThrough, StandsOn, IsStack, IsOpenAt, AreSlots, IsHand, IsWorker}
use Rattle.dfs_worker.specs.State.{State, next_stage, waiting}
use Rattle.dfs_worker.proofs.Facts.{Waits, Ends, Charges, start-facts, child-facts, charged-facts, charges-facts, post-facts, pop-facts, pick-facts, restore-facts, waiting-is}
use Rattle.dfs_worker.proofs.Places.{AreSlots-set, IsOpenAt-added, open-facts}

-- a worker that differs in its stack, hand and slots alone
remade : (worker : State) (stack : List Frame) (hand : Hand) (slots : Slots) → IsWorker worker → IsStack worker.shape worker.enrolled worker.machine stack →
    AreSlots worker.shape worker.machine slots → IsHand (record worker { stack = stack; hand = hand; slots = slots }) hand →
    IsWorker (record worker { stack = stack; hand = hand; slots = slots })
remade worker stack hand slots h on places held = record {
  shape = h.shape;
  machine = h.machine;
  stack = on;
  slots = places;
  hand = held;
  mark_stages = h.mark_stages;
  mark_machines = h.mark_machines;
}

-- ---- the top's child is taken
settled-none : (over : Bool) (next items : ℕ) (wait : Option (Context × ℕ)) → IsThrough over next items wait → IsThrough over next items None
settled-none over next items wait h = record { ahead = h.ahead; done = h.done; settled = λ _. refl }

stands-without : (shape : Extents) (enrolled : Bool) (machine stage from : ℕ) (frames : List Frame) (wait : Option (Context × ℕ)) (r : Rest) →
    StandsOn shape enrolled machine stage from frames wait r → StandsOn shape enrolled machine stage from frames None r
stands-without shape enrolled machine stage from frames wait rest.None h = h
stands-without shape enrolled machine stage from frames wait (rest.Roots next end) h = h
stands-without shape enrolled machine stage from frames wait (rest.Items message next over) h = record {
  above = h.above;
  same_stage = h.same_stage;
  here = h.here;
  packet = h.packet;
  through = settled-none over next (length message.items.items) wait h.through;
}

childless : (shape : Extents) (enrolled : Bool) (machine : ℕ) (frame : Frame) (frames : List Frame) → IsStack shape enrolled machine (frame ∷ frames) →
    IsStack shape enrolled machine (record frame { wait = None } ∷ frames)
childless shape enrolled machine frame frames h =
    (record { stage = h.0.stage; wait = tt; stands = stands-without shape enrolled machine frame.stage (next_stage frames) frames frame.wait frame.rest h.0.stands }, h.1)

-- ---- claim
pub claimed-keeps : (tree : Tree) (worker : State) (first end : ℕ) → IsWorker worker → own_guard (event.Claim 0) worker ≡ None → IsWorker (claimed tree first end worker)
claimed-keeps tree worker first end h own =
    let at = start-facts worker own in
    let some = h.shape.some_stage in
    remade worker (root_frame tree worker.machine first end ∷ worker.stack) worker.hand worker.slots h
    (rw at.stack (record { stage = omega arith; wait = tt; stands = (refl, refl, at.enrolled) }, tt)) h.slots (rw at.hand tt)

-- ---- retire
pub retired-keeps : (worker : State) → IsWorker worker → own_guard (event.Retire 0) worker ≡ None → IsWorker (retired worker)
retired-keeps worker h own =
    let at = start-facts worker own in
    record {
      shape = h.shape;
      machine = h.machine;
      stack = rw at.stack tt;
      slots = h.slots;
      hand = rw at.hand tt;
      mark_stages = h.mark_stages;
      mark_machines = h.mark_machines;
    }

-- ---- descend
pub descended-is : (worker : State) (frame : Frame) (frames : List Frame) (child : Context × ℕ) → Waits worker frame frames child →
    descended worker ≡ descended_by worker frame frames (Some child)
descended-is worker frame frames child at = ap (descended_at worker) at.stack ∙ ap (descended_by worker frame frames) at.wait

descended-waits : (worker : State) (frame : Frame) (frames : List Frame) (child : Context × ℕ) → IsWorker worker → Waits worker frame frames child →
    IsWorker (descended_by worker frame frames (Some child))
descended-waits worker frame frames child h at =
    let s = rw at.stack at h.stack in
    let wait = rw at.wait at s.0.wait in
    remade worker (child_frame (frame.stage + 1) child.0 ∷ record frame { wait = None } ∷ frames) worker.hand worker.slots h
    (record { stage = wait.0; wait = tt; stands = (refl, omega arith) }, childless worker.shape worker.enrolled worker.machine frame frames s)
    h.slots (rw at.hand tt)

pub descended-keeps : (worker : State) → IsWorker worker → own_guard (event.Descend 0) worker ≡ None → IsWorker (descended worker)
descended-keeps worker h own =
    let at = child-facts worker (λ stage to. nat_eq to worker.machine) guard.Local own in
    subst IsWorker (sym (descended-is worker at.0 at.1.0 at.1.1.0 at.1.1.1.0)) (descended-waits worker at.0 at.1.0 at.1.1.0 h at.1.1.1.0)

-- ---- append
pub appended-is : (worker : State) (frame : Frame) (frames : List Frame) (child : Context × ℕ) → Waits worker frame frames child →
    appended worker ≡ appended_by worker frame frames (Some child)
appended-is worker frame frames child at = ap (appended_at worker) at.stack ∙ ap (appended_by worker frame frames) at.wait

AreSlots-added : (shape : Extents) (machine : ℕ) (slots : Slots) (stage to : ℕ) (context : Context) (o : Option Message) → open_at slots stage to ≡ o →
    AreSlots shape machine slots → room_in o ≡ true → AreSlots shape machine (added_to slots stage to context o)
AreSlots-added shape machine slots stage to context None e h room = h
AreSlots-added shape machine slots stage to context (Some message) e h room =
    let at = open-facts slots stage to message e in
    let is = h.each_open (slot_of slots.machines stage to) message at.here in
    AreSlots-set shape machine slots stage to (Some (added context message)) h
    (λ m same. subst (IsOpenAt shape machine (slot_of slots.machines stage to)) (let e : added context message ≡ m = cc in e)
    (IsOpenAt-added shape machine (slot_of slots.machines stage to) context message is room))

appended-waits : (worker : State) (frame : Frame) (frames : List Frame) (child : Context × ℕ) → IsWorker worker → Waits worker frame frames child →
    has_room worker.slots (frame.stage + 1) child.1 ≡ true → IsWorker (appended_by worker frame frames (Some child))
appended-waits worker frame frames child h at room =
    let s = rw at.stack at h.stack in
    remade worker (record frame { wait = None } ∷ frames) worker.hand (with_context worker.slots (frame.stage + 1) child.1 child.0) h
    (childless worker.shape worker.enrolled worker.machine frame frames s)
    (AreSlots-added worker.shape worker.machine worker.slots (frame.stage + 1) child.1 child.0 (open_at worker.slots (frame.stage + 1) child.1) refl h.slots room)
    (rw at.hand tt)

pub appended-keeps : (worker : State) → IsWorker worker → own_guard (event.Append 0) worker ≡ None → IsWorker (appended worker)
appended-keeps worker h own =
    let at = child-facts worker (has_room worker.slots) guard.Room own in
    subst IsWorker (sym (appended-is worker at.0 at.1.0 at.1.1.0 at.1.1.1.0)) (appended-waits worker at.0 at.1.0 at.1.1.0 h at.1.1.1.0 at.1.1.1.1)

-- ---- charge
pub charged-is : (worker : State) (child : ℕ × ℕ) → waiting worker.stack ≡ Some child → charged worker ≡ record worker { hand = Charged child.0 child.1 }
charged-is worker child e = ap (charged_for worker) e

none-open : (o : Option Message) → (Rattle.std.specs.Prelude.not (Rattle.std.specs.Prelude.is_some o)) ≡ true → o ≡ None
none-open None e = refl
none-open (Some message) e = cc

pub charged-keeps : (worker : State) → IsWorker worker → own_guard (event.Charge 0) worker ≡ None → IsWorker (charged worker)
charged-keeps worker h own =
    let at = child-facts worker (λ stage to. Rattle.std.specs.Prelude.not (is_open worker.slots stage to)) guard.Open own in
    let waits = waiting-is worker at.0 at.1.0 at.1.1.0 at.1.1.1.0 in
    subst IsWorker (sym (charged-is worker (at.0.stage + 1, at.1.1.0.1) waits))
    (remade worker worker.stack (Charged (at.0.stage + 1) at.1.1.0.1) worker.slots h h.stack h.slots
    (waits, none-open (open_at worker.slots (at.0.stage + 1) at.1.1.0.1) at.1.1.1.1))

-- ---- fetch
pub fetched-is : (worker : State) (batch : Batch) (stage to : ℕ) (frame : Frame) (frames : List Frame) (child : Context × ℕ) → Charges worker stage to frame frames child →
    fetched batch worker ≡ fetched_for worker stage to batch frame frames (Some child)
fetched-is worker batch stage to frame frames child at =
    ap (fetched_by worker batch) at.hand ∙ ap (fetched_at worker stage to batch) at.stack ∙ ap (fetched_for worker stage to batch frame frames) at.wait

-- what a pool gives: an empty buffer of its machine, of the shape's size
pub record IsEmpty (worker : State) (batch : Batch) : Type 0 where
  pub home : batch.home ≡ worker.machine
  pub size : batch.size ≡ worker.shape.buffer
  pub none : batch.items ≡ []

fetched-charges : (worker : State) (batch : Batch) (stage to : ℕ) (frame : Frame) (frames : List Frame) (child : Context × ℕ) → IsWorker worker →
    Charges worker stage to frame frames child → IsEmpty worker batch → IsWorker (fetched_for worker stage to batch frame frames (Some child))
fetched-charges worker batch stage to frame frames child h at empty =
    let s = rw at.stack at h.stack in
    let wait = rw at.wait at s.0.wait in
    let some = h.shape.some_context in
    let message = opened_with worker stage to batch child.0 in
    let one : length message.items.items ≡ 1 = rw empty.none refl in
    let k = at.same_stage in
    let n = at.same_to in
    let low = wait.0 in
    let near = wait.1 in
    let is : IsMessageOf worker.shape message = record {
      from = h.machine;
      some_stage = omega arith;
      stage = omega arith;
      to = omega arith;
      home = empty.home;
      size = empty.size;
      some = omega arith;
      within = omega arith;
    } in
    remade worker (record frame { wait = None } ∷ frames) Free (with_slot worker.slots stage to (Some message)) h
    (childless worker.shape worker.enrolled worker.machine frame frames s)
    (AreSlots-set worker.shape worker.machine worker.slots stage to (Some message) h.slots
    (λ m same. subst (IsOpenAt worker.shape worker.machine (slot_of worker.slots.machines stage to)) (let e : message ≡ m = cc in e)
    (record { whole = is; own = refl; place = ap (λ q. slot_of q stage to) (sym h.slots.machines) })))
    tt

pub fetched-keeps : (worker : State) (batch : Batch) → IsWorker worker → own_guard (event.Fetch 0) worker ≡ None → IsEmpty worker batch → IsWorker (fetched batch worker)
fetched-keeps worker batch h own empty =
    let charged = charged-facts worker own in
    let hand = rw charged.1.1 at h.hand in
    let at = charges-facts worker charged.0 charged.1.0 charged.1.1 hand.0 in
    subst IsWorker (sym (fetched-is worker batch charged.0 charged.1.0 at.0 at.1.0 at.1.1.0 at.1.1.1))
    (fetched-charges worker batch charged.0 charged.1.0 at.0 at.1.0 at.1.1.0 h at.1.1.1 empty)

-- ---- post
pub posted-is : (worker : State) (stage to : ℕ) (message : Message) → open_at worker.slots stage to ≡ Some message →
    posted stage to worker ≡ posted_by worker stage to (Some message)
posted-is worker stage to message e = ap (posted_by worker stage to) e

pub posted-keeps : (worker : State) (stage to : ℕ) → IsWorker worker → own_guard (event.Post 0 stage to) worker ≡ None → IsWorker (posted stage to worker)
posted-keeps worker stage to h own =
    let at = post-facts worker stage to own in
    let there = open-facts worker.slots stage to at.0 at.1.1 in
    let is = h.slots.each_open (slot_of worker.slots.machines stage to) at.0 there.here in
    subst IsWorker (sym (posted-is worker stage to at.0 at.1.1))
    (remade worker worker.stack (Posted at.0) (with_slot worker.slots stage to None) h h.stack
    (AreSlots-set worker.shape worker.machine worker.slots stage to None h.slots (λ m e. absurd (cc)))
    (is.own, is.whole))

-- ---- push and discharge
pub freed-keeps : (worker : State) → IsWorker worker → IsWorker (freed worker)
freed-keeps worker h = remade worker worker.stack Free worker.slots h h.stack h.slots tt

-- ---- pop
pub popped-keeps : (worker : State) (message : Message) → IsWorker worker → own_guard (event.Pop 0 message.stage) worker ≡ None →
    message.to ≡ worker.machine → IsMessageOf worker.shape message → IsWorker (popped message worker)
popped-keeps worker message h own here is =
    remade worker worker.stack (Popped message) worker.slots h h.stack h.slots (here, (pop-facts worker message.stage own).1, is)

-- ---- pick
pub picked-is : (worker : State) (message : Message) → worker.hand ≡ Popped message → picked worker ≡ picked_by worker (Popped message)
picked-is worker message e = ap (picked_by worker) e

packet-of : (shape : Extents) (message : Message) → IsMessageOf shape message → IsPacket shape message
packet-of shape message is =
    record { from = is.from; some_stage = is.some_stage; stage = is.stage; to = is.to; home = is.home; size = is.size; within = is.within }

message-stack : (shape : Extents) (enrolled : Bool) (machine : ℕ) (message : Message) (contexts : List Context) (frames : List Frame) →
    message.items.items ≡ contexts → IsStack shape enrolled machine frames → message.to ≡ machine → next_stage frames ≤ message.stage → IsMessageOf shape message →
    IsStack shape enrolled machine (message_frame message contexts frames)
message-stack shape enrolled machine message [] frames e h here above is = h
message-stack shape enrolled machine message (context ∷ contexts) frames e h here above is =
    let some = is.some in (
      record {
        stage = is.stage;
        wait = tt;
        stands = record {
          above = above;
          same_stage = refl;
          here = here;
          packet = packet-of shape message is;
          through = record { ahead = λ _. omega arith; done = λ o. absurd (cc); settled = λ _. refl };
        };
      },
      h,
    )

pub picked-keeps : (worker : State) → IsWorker worker → own_guard (event.Pick 0) worker ≡ None → IsWorker (picked worker)
picked-keeps worker h own =
    let at = pick-facts worker own in
    let hand = rw at.1 at h.hand in
    subst IsWorker (sym (picked-is worker at.0 at.1))
    (remade worker (message_frame at.0 at.0.items.items worker.stack) Free worker.slots h
    (message-stack worker.shape worker.enrolled worker.machine at.0 at.0.items.items worker.stack refl h.stack hand.0 hand.1 hand.2) h.slots tt)

-- ---- restore
pub restored-is : (worker : State) (frame : Frame) (frames : List Frame) (message : Message) (next : ℕ) → Ends worker frame frames message next →
    restored worker ≡ restored_by worker frames (rest.Items message next true)
restored-is worker frame frames message next at = ap (restored_at worker) at.stack ∙ ap (restored_by worker frames) at.rest

restored-ends : (worker : State) (frame : Frame) (frames : List Frame) (message : Message) (next : ℕ) → IsWorker worker → Ends worker frame frames message next →
    IsWorker (restored_by worker frames (rest.Items message next true))
restored-ends worker frame frames message next h at =
    let s = rw at.stack at h.stack in
    let stands = rw at.rest at s.0.stands in
    let p = stands.packet in
    remade worker frames (Emptied message.from message.stage) worker.slots h s.1 h.slots (p.from, p.some_stage, p.stage)

pub restored-keeps : (worker : State) → IsWorker worker → own_guard (event.Restore 0) worker ≡ None → IsWorker (restored worker)
restored-keeps worker h own =
    let at = restore-facts worker own in
    subst IsWorker (sym (restored-is worker at.0 at.1.0 at.1.1.0 at.1.1.1.0 at.1.1.1.1)) (restored-ends worker at.0 at.1.0 at.1.1.0 at.1.1.1.0 h at.1.1.1.1)

-- ---- mark and close
moved-by : (marks : Marks) (closed : ℕ) (same : Bool) → ((cond same marks (unmarked marks.machines marks.stages closed)).stages ≡ marks.stages)
    × ((cond same marks (unmarked marks.machines marks.stages closed)).machines ≡ marks.machines)
moved-by marks closed true = (refl, refl)
moved-by marks closed false = (refl, refl)

pub moved-keeps : (worker : State) (closed : ℕ) → IsWorker worker → IsWorker (moved closed worker)
moved-keeps worker closed h =
    let same = moved-by worker.marks closed (nat_eq worker.marks.stage closed) in
    record {
      shape = h.shape;
      machine = h.machine;
      stack = h.stack;
      slots = h.slots;
      hand = h.hand;
      mark_stages = same.0 ∙ h.mark_stages;
      mark_machines = same.1 ∙ h.mark_machines;
    }

pub marked-keeps : (worker : State) (closed : ℕ) (word : Word) → IsWorker worker → IsWorker (marked closed word worker)
marked-keeps worker closed word h =
    let m = moved-keeps worker closed h in
    record {
      shape = h.shape;
      machine = h.machine;
      stack = h.stack;
      slots = h.slots;
      hand = h.hand;
      mark_stages = m.mark_stages;
      mark_machines = m.mark_machines;
    }
