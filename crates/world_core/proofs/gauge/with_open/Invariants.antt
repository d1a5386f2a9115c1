use Rattle.std.proofs.Common.{◌≡◌, ◌+◌, take}
use Rattle.match_context.specs.Bags.{total}
use Rattle.world_core.specs.Gauge.{in_slot, one_buffer, its_contexts}
use Rattle.world_core.proofs.gauge.with_open.Given as goal

abbrev pub invariant-loop-at : goal.invariant-loop-at
invariant-loop-at l = record {
  buffers : l.gauge.buffers ≡ l.fn.gauge.buffers + total (in_slot one_buffer) (take l.at l.worker.slots.messages);
  contexts : l.gauge.contexts ≡ l.fn.gauge.contexts + total (in_slot its_contexts) (take l.at l.worker.slots.messages);
}
