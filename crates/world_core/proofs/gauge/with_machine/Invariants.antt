use Rattle.std.proofs.Common.{◌≡◌, ◌+◌}
use Rattle.fabric.specs.Shared.{inbox_at}
use Rattle.world_core.specs.Gauge.{in_inbox, one_buffer, its_contexts}
use Rattle.world_core.specs.Owed.{total_below}
use Rattle.world_core.proofs.gauge.with_machine.Given as goal

abbrev pub invariant-loop-stage : goal.invariant-loop-stage
invariant-loop-stage l = record {
  buffers : l.gauge.buffers ≡ l.fn.gauge.buffers + total_below l.stage (λ stage. in_inbox one_buffer (inbox_at l.fabric l.machine stage));
  contexts : l.gauge.contexts ≡ l.fn.gauge.contexts + total_below l.stage (λ stage. in_inbox its_contexts (inbox_at l.fabric l.machine stage));
}
