use Rattle.std.proofs.Common.{◌≡◌, ◌+◌}
use Rattle.world_core.specs.Gauge.{in_machine, one_buffer, its_contexts}
use Rattle.world_core.specs.Owed.{total_below}
use Rattle.world_core.proofs.gauge.with_inboxes.Given as goal

abbrev pub invariant-loop-machine : goal.invariant-loop-machine
invariant-loop-machine l = record {
  buffers : l.gauge.buffers ≡ l.fn.gauge.buffers + total_below l.machine (in_machine one_buffer l.fabric);
  contexts : l.gauge.contexts ≡ l.fn.gauge.contexts + total_below l.machine (in_machine its_contexts l.fabric);
}
