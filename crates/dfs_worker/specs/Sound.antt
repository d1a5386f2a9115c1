-- What each worker keeps, whatever it does.
use Rattle.std.specs.Prelude.{◌^◌, ◌≡◌, ℕ, ◌+◌, ◌*◌, ◌<◌, ◌≤◌, Bool, true, false, List, [], ◌∷◌, length, slice_index_or, Option, Some, None}
use Rattle.adfs_base.specs.Shape.{Extents, IsShape}
use Rattle.fabric.specs.Calls.{IsMessageOf}
use Rattle.match_context.specs.Tree.{Tree, IsTree}
use Rattle.match_context.specs.declared.context.Context.{Context}
use Rattle.match_context.specs.declared.frame.Frame.{Frame}
use Rattle.match_context.specs.declared.frame.Rest.{Rest}
use Rattle.match_context.specs.declared.frame.Rest.TheVariants as rest
use Rattle.match_context.specs.declared.message.Message.{Message}
use Rattle.dfs_worker.specs.declared.hand.Hand.{Hand}
use Rattle.dfs_worker.specs.declared.hand.Hand.TheVariants.{Free, Charged, Posted, Popped, Emptied}
use Rattle.dfs_worker.specs.Slots.{Slots, slot_of, open_at}
use Rattle.dfs_worker.specs.State.{State, next_stage, waiting}

-- ---- messages
-- A message that was sent, whatever is left in it: it is of a later stage and of machines that exist, and its buffer is
-- the sender's, of the shape's size.
pub record IsPacket (shape : Extents) (message : Message) : Type 0 where
  pub from : message.from < shape.machines
  pub some_stage : 0 < message.stage
  pub stage : message.stage < shape.stages
  pub to : message.to < shape.machines
  pub home : message.items.home ≡ message.from
  pub size : message.items.size ≡ shape.buffer
  pub within : length message.items.items ≤ shape.buffer

-- ---- the stack
-- a child that waits is of a stage and a machine that exist
abbrev pub IsWaiting : Extents → ℕ → Option (Context × ℕ) → Type 0
IsWaiting shape stage None = Unit {0}
IsWaiting shape stage (Some child) = (stage + 1 < shape.stages) × (child.1 < shape.machines)

-- A message frame that is over has no later item and no waiting child; else the next item is at most the length.
pub record IsThrough (over : Bool) (next items : ℕ) (wait : Option (Context × ℕ)) : Type 0 where
  pub ahead : over ≡ false → next ≤ items
  pub done : over ≡ true → items ≤ next
  pub settled : over ≡ true → wait ≡ None

pub record IsMessageFrame (shape : Extents) (machine stage from : ℕ) (wait : Option (Context × ℕ)) (message : Message) (next : ℕ) (over : Bool) : Type 0 where
  pub above : from ≤ stage
  pub same_stage : message.stage ≡ stage
  pub here : message.to ≡ machine
  pub packet : IsPacket shape message
  pub through : IsThrough over next (length message.items.items) wait

-- A frame is a child of the frame below it, or a root frame at the bottom of an enrolled worker's stack, or a message
-- frame of a stage above. `from` is the stage above the frame below.
abbrev pub StandsOn : Extents → Bool → ℕ → ℕ → ℕ → List Frame → Option (Context × ℕ) → Rest → Type 0
StandsOn shape enrolled machine stage from frames wait rest.None = (from ≡ stage) × (0 < stage)
StandsOn shape enrolled machine stage from frames wait (rest.Roots next end) = (stage ≡ 0) × (frames ≡ []) × (enrolled ≡ true)
StandsOn shape enrolled machine stage from frames wait (rest.Items message next over) =
    IsMessageFrame shape machine stage from wait message next over

pub record IsFrame (shape : Extents) (enrolled : Bool) (machine : ℕ) (frame : Frame) (frames : List Frame) : Type 0 where
  pub stage : frame.stage < shape.stages
  pub wait : IsWaiting shape frame.stage frame.wait
  pub stands : StandsOn shape enrolled machine frame.stage (next_stage frames) frames frame.wait frame.rest

abbrev pub IsStack : Extents → Bool → ℕ → List Frame → Type 0
IsStack shape enrolled machine [] = Unit {0}
IsStack shape enrolled machine (frame ∷ frames) = IsFrame shape enrolled machine frame frames × IsStack shape enrolled machine frames

-- the later roots of a root frame are below this number
abbrev pub RestWithin : ℕ → Rest → Type 0
RestWithin roots rest.None = Unit {0}
RestWithin roots (rest.Roots next end) = end ≤ roots
RestWithin roots (rest.Items message next over) = Unit {0}

abbrev pub WithinRoots : ℕ → List Frame → Type 0
WithinRoots roots [] = Unit {0}
WithinRoots roots (frame ∷ frames) = RestWithin roots frame.rest × WithinRoots roots frames

-- the same, and the places of the items can be counted
abbrev pub RestFits : ℕ → Rest → Type 0
RestFits roots rest.None = Unit {0}
RestFits roots (rest.Roots next end) = end ≤ roots
RestFits roots (rest.Items message next over) = length message.items.items < 2 ^ 32

abbrev pub TopFits : ℕ → ℕ → List Frame → Type 0
TopFits stages roots [] = Unit {0}
TopFits stages roots (frame ∷ frames) = (frame.stage < stages) × RestFits roots frame.rest

-- ---- open buffers
-- what is open stands in the place of its stage and machine, and holds a context
pub record IsOpenAt (shape : Extents) (machine at : ℕ) (message : Message) : Type 0 where
  pub whole : IsMessageOf shape message
  pub own : message.from ≡ machine
  pub place : slot_of shape.machines message.stage message.to ≡ at

pub record AreSlots (shape : Extents) (machine : ℕ) (slots : Slots) : Type 0 where
  pub stages : slots.stages ≡ shape.stages
  pub machines : slots.machines ≡ shape.machines
  pub places : length slots.messages ≡ shape.stages * shape.machines
  pub each_open : (at : ℕ) (message : Message) → slice_index_or slots.messages at None ≡ Some message → IsOpenAt shape machine at message

-- ---- the hand
abbrev pub IsHand : State → Hand → Type 0
IsHand worker Free = Unit {0}
IsHand worker (Charged stage to) = (waiting worker.stack ≡ Some (stage, to)) × (open_at worker.slots stage to ≡ None)
IsHand worker (Posted message) = (message.from ≡ worker.machine) × IsMessageOf worker.shape message
IsHand worker (Popped message) =
    (message.to ≡ worker.machine) × (next_stage worker.stack ≤ message.stage) × IsMessageOf worker.shape message
IsHand worker (Emptied from stage) = (from < worker.shape.machines) × (0 < stage) × (stage < worker.shape.stages)

-- ---- all of a worker
pub record IsWorker (worker : State) : Type 0 where
  pub shape : IsShape worker.shape
  pub machine : worker.machine < worker.shape.machines
  -- stages on the stack rise, and each frame has its place there
  pub stack : IsStack worker.shape worker.enrolled worker.machine worker.stack
  -- at most one buffer is open for each stage and machine, and it isn't empty
  pub slots : AreSlots worker.shape worker.machine worker.slots
  -- a credit in hand is for the waiting child, for which no buffer is open
  pub hand : IsHand worker worker.hand
  -- its marks are of this shape's words
  pub mark_stages : worker.marks.stages ≡ worker.shape.stages
  pub mark_machines : worker.marks.machines ≡ worker.shape.machines

-- the tree is one, and has the worker's stages and machines
pub record TreeFits (tree : Tree) (shape : Extents) : Type 0 where
  pub law : IsTree tree
  pub same_stages : tree.stages ≡ shape.stages
  pub same_machines : tree.machines ≡ shape.machines
