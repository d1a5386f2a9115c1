use Rattle.std.proofs.Common.{sym, ap, ◌∙◌, Some, arith}
use Rattle.std.proofs.lemmas.Option.{slice_get-get_or}
use Rattle.world_core.specs.Gauge.{in_worker, at_worker, one_buffer, its_contexts}
use Rattle.world_core.proofs.Gauges.{sum-fits, sum-next, sums-fit, sums-next}
use Rattle.world_core.proofs.gauge.with_workers.Goals as goal

pub with_worker-gauge-requires-clause-worker : goal.with_worker-gauge-requires-clause-worker
with_worker-gauge-requires-clause-worker c =
    c.requires.workers c.loop-worker.worker-index c.worker-item.result
    (slice_get-get_or c.args.workers.now c.loop-worker.worker-index c.worker-item.result (omega arith) ∙ ap Some (sym c.worker-item.is))

pub with_worker-gauge-requires-clause-buffers : goal.with_worker-gauge-requires-clause-buffers
with_worker-gauge-requires-clause-buffers c =
    sum-fits (in_worker one_buffer) c.args.workers.now c.loop-worker.worker-index c.worker-item.result c.worker-item.result
    c.args.gauge.buffers c.loop-worker.gauge.buffers c.loop-worker.invariant.buffers (omega arith) c.worker-item.is c.requires.buffers

pub with_worker-gauge-requires-clause-contexts : goal.with_worker-gauge-requires-clause-contexts
with_worker-gauge-requires-clause-contexts c =
    sums-fit (in_worker its_contexts) at_worker c.args.workers.now c.loop-worker.worker-index c.worker-item.result c.worker-item.result
    c.args.gauge.contexts c.loop-worker.gauge.contexts c.loop-worker.invariant.contexts (omega arith) c.worker-item.is c.requires.contexts

pub loop-worker-preserved : goal.loop-worker-preserved
loop-worker-preserved c = record {
  buffers =
      sum-next (in_worker one_buffer) c.args.workers.now c.loop-worker.worker-index c.worker-item.result c.worker-item.result
      c.args.gauge.buffers c.loop-worker.gauge.buffers c.with_worker-gauge.result.buffers c.loop-worker.invariant.buffers (omega arith) c.worker-item.is c.with_worker-gauge.ensures.buffers;
  contexts =
      sums-next (in_worker its_contexts) at_worker c.args.workers.now c.loop-worker.worker-index c.worker-item.result c.worker-item.result
      c.args.gauge.contexts c.loop-worker.gauge.contexts c.with_worker-gauge.result.contexts c.loop-worker.invariant.contexts (omega arith) c.worker-item.is c.with_worker-gauge.ensures.contexts;
}
