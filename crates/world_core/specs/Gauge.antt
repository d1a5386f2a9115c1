-- What stands outside the pools: buffers, and contexts in them, in frames and in waiting children.
use Rattle.std.specs.Prelude.{ℕ, ◌+◌, List, [], length, Option, Some, None}
use Rattle.match_context.specs.Bags.{total}
use Rattle.match_context.specs.declared.context.Context.{Context}
use Rattle.match_context.specs.declared.frame.Frame.{Frame}
use Rattle.match_context.specs.declared.frame.Rest.{Rest}
use Rattle.match_context.specs.declared.frame.Rest.TheVariants as rest
use Rattle.match_context.specs.declared.message.Message.{Message}
use Rattle.fabric.specs.Shared.{Shared, inbox_at}
use Rattle.dfs_worker.specs.declared.hand.Hand.{Hand}
use Rattle.dfs_worker.specs.declared.hand.Hand.TheVariants.{Free, Charged, Posted, Popped, Emptied}
use Rattle.dfs_worker.specs.State.{State}
use Rattle.world_core.specs.declared.gauge.Gauge.{Gauge}
use Rattle.world_core.specs.Owed.{total_below}
use Rattle.world_core.specs.World.{World}

-- ---- a number of each buffer outside the pools, by its message
abbrev pub in_slot : (Message → ℕ) → Option Message → ℕ
in_slot number None = 0
in_slot number (Some message) = number message

abbrev pub in_hand : (Message → ℕ) → Hand → ℕ
in_hand number Free = 0
in_hand number (Charged stage to) = 0
in_hand number (Posted message) = number message
in_hand number (Popped message) = number message
in_hand number (Emptied from stage) = 0

abbrev pub in_rest : (Message → ℕ) → Rest → ℕ
in_rest number rest.None = 0
in_rest number (rest.Roots next end) = 0
in_rest number (rest.Items message next over) = number message

abbrev pub in_frame : (Message → ℕ) → Frame → ℕ
in_frame number frame = in_rest number frame.rest

-- A worker has its open buffers, the one in its hand, and those of its message frames.
abbrev pub in_worker : (Message → ℕ) → State → ℕ
in_worker number v = total (in_slot number) v.slots.messages + in_hand number v.hand + total (in_frame number) v.stack

-- the messages of an inbox; those of one that doesn't exist are none
abbrev pub messages_of : Option (List Message) → List Message
messages_of None = []
messages_of (Some messages) = messages

abbrev pub in_inbox : (Message → ℕ) → Option (List Message) → ℕ
in_inbox number inbox = total number (messages_of inbox)

abbrev pub in_machine : (Message → ℕ) → Shared → ℕ → ℕ
in_machine number s machine = total_below s.shape.stages (λ stage. in_inbox number (inbox_at s machine stage))

abbrev pub in_inboxes : (Message → ℕ) → Shared → ℕ
in_inboxes number s = total_below s.shape.machines (in_machine number s)

-- all of them
abbrev pub outside : (Message → ℕ) → World → ℕ
outside number w = total (in_worker number) w.workers + in_inboxes number w.shared

-- ---- what is counted
abbrev pub one_buffer : Message → ℕ
one_buffer message = 1

abbrev pub its_contexts : Message → ℕ
its_contexts message = length message.items.items

abbrev pub children : Option (Context × ℕ) → ℕ
children None = 0
children (Some child) = 1

-- a frame's own context, and its waiting child
abbrev pub at_frame : Frame → ℕ
at_frame frame = 1 + children frame.wait

abbrev pub at_worker : State → ℕ
at_worker v = total at_frame v.stack

abbrev pub gauge_of : World → Gauge
gauge_of w = record { buffers = outside one_buffer w; contexts = outside its_contexts w + total at_worker w.workers }
