use Rattle.std.proofs.Common.{◌≡◌, ◌+◌, take}
use Rattle.match_context.specs.Bags.{total}
use Rattle.fabric.specs.Shared.{inbox_at}
use Rattle.world_core.specs.Gauge.{messages_of, one_buffer, its_contexts}
use Rattle.world_core.proofs.gauge.with_inbox.Given as goal

abbrev pub invariant-loop-place : goal.invariant-loop-place
invariant-loop-place l = record {
  buffers : l.gauge.buffers ≡ l.fn.gauge.buffers + total one_buffer (take l.place (messages_of (inbox_at l.fabric l.machine l.stage)));
  contexts : l.gauge.contexts ≡ l.fn.gauge.contexts + total its_contexts (take l.place (messages_of (inbox_at l.fabric l.machine l.stage)));
}
