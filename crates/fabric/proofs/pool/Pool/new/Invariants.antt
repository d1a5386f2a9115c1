use Rattle.std.proofs.Common.{◌≡◌, ◌≤◌, length}
use Rattle.std.specs.Prelude.{All, vec_capacity}
use Rattle.fabric.specs.Calls.{empty_buffer}
use Rattle.fabric.proofs.pool.Pool.new.Given as goal

-- so many buffers are made, all alike, and the room is there
abbrev pub invariant-loop-i : goal.invariant-loop-i
invariant-loop-i l = record {
  count : length l.buffers.items ≡ l.i;
  alike : All (λ b. b ≡ empty_buffer l.home l.size) l.buffers.items;
  room : l.room ≤ vec_capacity l.buffers;
}
