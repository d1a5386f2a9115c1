-- The parts of a plain fabric as its code sees them.
use Rattle.std.specs.Prelude.{ℕ, List, []}
use Rattle.adfs_base.specs.Shape.{Extents, pool_of}
use Rattle.match_context.specs.declared.message.Message.{Message}

-- an inbox: its messages, the oldest first, and how many it has room for
pub record Queue : Type 0 where
  pub room : ℕ
  pub messages : List Message

-- a pool of empty buffers of one home and one size: how many there are, and how many it has room for
pub record Stock : Type 0 where
  pub home : ℕ
  pub size : ℕ
  pub room : ℕ
  pub count : ℕ

abbrev pub empty_queue : ℕ → Queue
empty_queue room = record { room = room; messages = [] }

-- a machine's pool at the start
abbrev pub full_stock : Extents → ℕ → Stock
full_stock shape machine = record { home = machine; size = shape.buffer; room = pool_of shape; count = pool_of shape }
