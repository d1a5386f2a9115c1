use Rattle.std.proofs.Common.{◌≡◌, ◌+◌, take}
use Rattle.match_context.specs.Bags.{total}
use Rattle.world_core.specs.Gauge.{in_worker, at_worker, one_buffer, its_contexts}
use Rattle.world_core.proofs.gauge.with_workers.Given as goal

abbrev pub invariant-loop-worker : goal.invariant-loop-worker
invariant-loop-worker l = record {
  buffers : l.gauge.buffers ≡ l.fn.gauge.buffers + total (in_worker one_buffer) (take l.worker-index l.workers);
  contexts : l.gauge.contexts ≡ l.fn.gauge.contexts + (total (in_worker its_contexts) (take l.worker-index l.workers) + total at_worker (take l.worker-index l.workers));
}
