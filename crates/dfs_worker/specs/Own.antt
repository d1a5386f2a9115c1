-- What each event does to its worker.
use Rattle.std.specs.Prelude.{◌≡◌, Bool, ℕ, ◌+◌, true, false, nat_lt, ◌==◌, if◌then◌else◌, List, [], ◌∷◌, ◌++◌, length, slice_index_or, Option, Some, None}
use Rattle.adfs_base.specs.declared.step_answers.Word.{Word}
use Rattle.adfs_base.specs.declared.step_answers.Word.TheVariants.{Enrolled, Used}
use Rattle.match_context.specs.declared.context.Context.{Context}
use Rattle.match_context.specs.declared.frame.Frame.{Frame}
use Rattle.match_context.specs.declared.frame.Rest.{Rest}
use Rattle.match_context.specs.declared.frame.Rest.TheVariants as rest
use Rattle.match_context.specs.declared.message.Message.{Message}
use Rattle.match_context.specs.declared.expand.Next.{Next}
use Rattle.match_context.specs.declared.expand.Next.TheVariants.{Child, Row, Skip, End}
use Rattle.match_context.specs.Batch.{Batch}
use Rattle.match_context.specs.Tree.{Tree, answer, after}
use Rattle.stage_termination.specs.Marks.{with_mark, moved_to}
use Rattle.dfs_worker.specs.declared.hand.Hand.{Hand}
use Rattle.dfs_worker.specs.declared.hand.Hand.TheVariants.{Free, Charged, Posted, Popped, Emptied}
use Rattle.dfs_worker.specs.Slots.{open_at, with_slot, with_context, added}
use Rattle.dfs_worker.specs.State.{State, waiting}

-- ---- claim: the roots from `first` up to `end` become a frame of stage 0
abbrev pub root_frame : Tree → ℕ → ℕ → ℕ → Frame
root_frame tree machine first end =
    record { stage = 0; context = tree.root machine first; place = 0; wait = None; rest = rest.Roots (first + 1) end }

abbrev pub claimed : Tree → ℕ → ℕ → State → State
claimed tree first end worker = record worker { stack = root_frame tree worker.machine first end ∷ worker.stack }

-- ---- retire
abbrev pub retired : State → State
retired worker = record worker { enrolled = false }

-- ---- advance: one answer of the top
-- The frame when its context has ended: it goes on with its next root or item. Where there is none a message frame is
-- over, and any other is taken off.
abbrev pub ended : Tree → ℕ → Frame → Rest → Option Frame
ended tree machine frame rest.None = None
ended tree machine frame (rest.Roots next end) =
    if nat_lt next end
    then Some (record frame { context = tree.root machine next; place = 0; rest = rest.Roots (next + 1) end })
    else None
ended tree machine frame (rest.Items message next over) =
    if nat_lt next (length message.items.items)
    then Some (record frame {
      context = slice_index_or message.items.items next frame.context;
      place = 0;
      rest = rest.Items message (next + 1) over;
    })
    else Some (record frame { rest = rest.Items message next true })

-- what an answer leaves of the frame, which is here as `next` left it
abbrev pub stepped : Tree → ℕ → Frame → Next → Option Frame
stepped tree machine frame (Child context to) = Some (record frame { wait = Some (context, to) })
stepped tree machine frame (Row context) = Some frame
stepped tree machine frame Skip = Some frame
stepped tree machine frame End = ended tree machine frame frame.rest

abbrev pub rows_with : List Context → Next → List Context
rows_with rows (Child context to) = rows
rows_with rows (Row context) = rows ++ context ∷ []
rows_with rows Skip = rows
rows_with rows End = rows

abbrev pub frame_if : Bool → Frame → Option Frame
frame_if kept frame = if kept then Some frame else None

-- a frame, if there is one, on those below it
abbrev pub onto : Option Frame → List Frame → List Frame
onto None frames = frames
onto (Some frame) frames = frame ∷ frames

-- the top's next answer
abbrev pub answer_at : Tree → ℕ → Frame → Next
answer_at tree machine frame = answer (tree.ahead machine frame.stage frame.context frame.place)

abbrev pub frames_after : Tree → ℕ → List Frame → List Frame
frames_after tree machine [] = []
frames_after tree machine (frame ∷ frames) =
    onto (stepped tree machine (after tree machine frame) (answer_at tree machine frame)) frames

abbrev pub rows_after : Tree → ℕ → List Context → List Frame → List Context
rows_after tree machine rows [] = rows
rows_after tree machine rows (frame ∷ frames) = rows_with rows (answer_at tree machine frame)

abbrev pub advanced : Tree → State → State
advanced tree worker =
    record worker {
      stack = frames_after tree worker.machine worker.stack;
      rows = rows_after tree worker.machine worker.rows worker.stack;
    }

abbrev pub IsRow : Next → Type 0
IsRow (Child context machine) = ⊥
IsRow (Row context) = Unit {0}
IsRow Skip = ⊥
IsRow End = ⊥

-- the top's next answer is a row
abbrev pub AddsRow : Tree → ℕ → List Frame → Type 0
AddsRow tree machine [] = ⊥
AddsRow tree machine (frame ∷ frames) = IsRow (answer_at tree machine frame)

-- ---- descend: the waiting child becomes the top
abbrev pub child_frame : ℕ → Context → Frame
child_frame stage context = record { stage = stage; context = context; place = 0; wait = None; rest = rest.None }

abbrev pub descended_by : State → Frame → List Frame → Option (Context × ℕ) → State
descended_by worker frame frames None = worker
descended_by worker frame frames (Some child) =
    record worker { stack = child_frame (frame.stage + 1) child.0 ∷ record frame { wait = None } ∷ frames }

abbrev pub descended_at : State → List Frame → State
descended_at worker [] = worker
descended_at worker (frame ∷ frames) = descended_by worker frame frames frame.wait

abbrev pub descended : State → State
descended worker = descended_at worker worker.stack

-- ---- append: the waiting child goes into the buffer that is open for it
abbrev pub appended_by : State → Frame → List Frame → Option (Context × ℕ) → State
appended_by worker frame frames None = worker
appended_by worker frame frames (Some child) =
    record worker {
      stack = record frame { wait = None } ∷ frames;
      slots = with_context worker.slots (frame.stage + 1) child.1 child.0;
    }

abbrev pub appended_at : State → List Frame → State
appended_at worker [] = worker
appended_at worker (frame ∷ frames) = appended_by worker frame frames frame.wait

abbrev pub appended : State → State
appended worker = appended_at worker worker.stack

-- ---- charge: a credit for a buffer for the waiting child is in hand
abbrev pub charged_for : State → Option (ℕ × ℕ) → State
charged_for worker None = worker
charged_for worker (Some child) = record worker { hand = Charged child.0 child.1 }

abbrev pub charged : State → State
charged worker = charged_for worker (waiting worker.stack)

-- ---- fetch: the waiting child goes into a buffer that is opened for it
abbrev pub opened_with : State → ℕ → ℕ → Batch → Context → Message
opened_with worker stage to batch context =
    added context (record { from = worker.machine; stage = stage; to = to; items = batch })

abbrev pub fetched_for : State → ℕ → ℕ → Batch → Frame → List Frame → Option (Context × ℕ) → State
fetched_for worker stage to batch frame frames None = worker
fetched_for worker stage to batch frame frames (Some child) =
    record worker {
      stack = record frame { wait = None } ∷ frames;
      slots = with_slot worker.slots stage to (Some (opened_with worker stage to batch child.0));
      hand = Free;
    }

abbrev pub fetched_at : State → ℕ → ℕ → Batch → List Frame → State
fetched_at worker stage to batch [] = worker
fetched_at worker stage to batch (frame ∷ frames) = fetched_for worker stage to batch frame frames frame.wait

abbrev pub fetched_by : State → Batch → Hand → State
fetched_by worker batch Free = worker
fetched_by worker batch (Charged stage to) = fetched_at worker stage to batch worker.stack
fetched_by worker batch (Posted message) = worker
fetched_by worker batch (Popped message) = worker
fetched_by worker batch (Emptied from stage) = worker

abbrev pub fetched : Batch → State → State
fetched batch worker = fetched_by worker batch worker.hand

-- ---- post: the message that is open there comes into the hand
abbrev pub posted_by : State → ℕ → ℕ → Option Message → State
posted_by worker stage to None = worker
posted_by worker stage to (Some message) =
    record worker { slots = with_slot worker.slots stage to None; hand = Posted message }

abbrev pub posted : ℕ → ℕ → State → State
posted stage to worker = posted_by worker stage to (open_at worker.slots stage to)

-- ---- push and discharge: what was in hand is gone
abbrev pub freed : State → State
freed worker = record worker { hand = Free }

-- ---- pop: a message comes into the hand
abbrev pub popped : Message → State → State
popped message worker = record worker { hand = Popped message }

-- ---- pick: the message in hand becomes the top
abbrev pub message_frame : Message → List Context → List Frame → List Frame
message_frame message [] frames = frames
message_frame message (context ∷ contexts) frames =
    record { stage = message.stage; context = context; place = 0; wait = None; rest = rest.Items message 1 false } ∷ frames

abbrev pub picked_by : State → Hand → State
picked_by worker Free = worker
picked_by worker (Charged stage to) = worker
picked_by worker (Posted message) = worker
picked_by worker (Popped message) =
    record worker { stack = message_frame message message.items.items worker.stack; hand = Free }
picked_by worker (Emptied from stage) = worker

abbrev pub picked : State → State
picked worker = picked_by worker worker.hand

-- ---- restore: the buffer of a message frame that is over leaves
abbrev pub restored_by : State → List Frame → Rest → State
restored_by worker frames rest.None = worker
restored_by worker frames (rest.Roots next end) = worker
restored_by worker frames (rest.Items message next over) =
    record worker { stack = frames; hand = Emptied message.from message.stage }

abbrev pub restored_at : State → List Frame → State
restored_at worker [] = worker
restored_at worker (frame ∷ frames) = restored_by worker frames frame.rest

abbrev pub restored : State → State
restored worker = restored_at worker worker.stack

-- the buffer that leaves: that of the top's message, empty
abbrev pub IsRestBuffer : Rest → Batch → Type 0
IsRestBuffer rest.None buffer = ⊥
IsRestBuffer (rest.Roots next end) buffer = ⊥
IsRestBuffer (rest.Items message next over) buffer =
    buffer ≡ record { home = message.items.home; size = message.items.size; items = [] }

abbrev pub IsTopBuffer : List Frame → Batch → Type 0
IsTopBuffer [] buffer = ⊥
IsTopBuffer (frame ∷ frames) buffer = IsRestBuffer frame.rest buffer

-- ---- mark: a word of the stage `closed` is marked. Closing leaves the worker as it is.
abbrev pub event_word : ℕ → ℕ → ℕ → Word
event_word closed a b = if closed == 0 then Enrolled a else Used a closed b

abbrev pub marked : ℕ → Word → State → State
marked closed word worker = record worker { marks = with_mark (moved_to worker.marks closed) word }

-- what was seen of `closed` is known; the marks of an earlier stage are gone
abbrev pub moved : ℕ → State → State
moved closed worker = record worker { marks = moved_to worker.marks closed }
