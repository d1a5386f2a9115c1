-- The messages that a worker fills: at most one for each stage and machine.
use Rattle.std.specs.Prelude.{ℕ, ◌+◌, ◌*◌, Bool, false, ◌&&◌, nat_lt, if◌then◌else◌, List, ◌++◌, [], ◌∷◌, length, slice_index_or, slice_set, Option, Some, None, is_some}
use Rattle.match_context.specs.declared.context.Context.{Context}
use Rattle.match_context.specs.declared.message.Message.{Message}

-- a place for each stage and machine, with the message that is open there
pub record Slots : Type 0 where
  pub stages : ℕ
  pub machines : ℕ
  pub messages : List (Option Message)

-- the place of a stage and a machine
abbrev pub slot_of : ℕ → ℕ → ℕ → ℕ
slot_of machines stage to = stage * machines + to

-- The message that is open for a stage and a machine. For those that don't exist none is.
abbrev pub open_at : Slots → ℕ → ℕ → Option Message
open_at slots stage to =
    if nat_lt stage slots.stages && nat_lt to slots.machines
    then slice_index_or slots.messages (slot_of slots.machines stage to) None
    else None

abbrev pub is_open : Slots → ℕ → ℕ → Bool
is_open slots stage to = is_some (open_at slots stage to)

abbrev pub room_in : Option Message → Bool
room_in None = false
room_in (Some message) = nat_lt (length message.items.items) message.items.size

-- whether a buffer with room is open there
abbrev pub has_room : Slots → ℕ → ℕ → Bool
has_room slots stage to = room_in (open_at slots stage to)

-- the slots with this in a place
abbrev pub with_slot : Slots → ℕ → ℕ → Option Message → Slots
with_slot slots stage to message =
    record slots { messages = slice_set slots.messages (slot_of slots.machines stage to) message }

-- a message with one more context
abbrev pub added : Context → Message → Message
added context message =
    record message {
      items = record { home = message.items.home; size = message.items.size; items = message.items.items ++ context ∷ [] };
    }

abbrev pub added_to : Slots → ℕ → ℕ → Context → Option Message → Slots
added_to slots stage to context None = slots
added_to slots stage to context (Some message) = with_slot slots stage to (Some (added context message))

-- one more context in the buffer that is open there
abbrev pub with_context : Slots → ℕ → ℕ → Context → Slots
with_context slots stage to context = added_to slots stage to context (open_at slots stage to)
