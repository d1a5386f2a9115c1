use Rattle.std.proofs.Common.{refl}
use Rattle.std.specs.Prelude.{slice_index_or, None}
use Rattle.world_core.specs.Gauge.{in_slot, one_buffer, its_contexts}
use Rattle.world_core.proofs.Gauges.{place-in, sum-fits, sum-next}
use Rattle.world_core.proofs.gauge.with_open.Goals as goal

pub with_slot-gauge-requires-clause-buffers : goal.with_slot-gauge-requires-clause-buffers
with_slot-gauge-requires-clause-buffers c =
    sum-fits (in_slot one_buffer) c.args.worker.now.slots.messages c.loop-at.at None (slice_index_or c.args.worker.now.slots.messages c.loop-at.at None)
    c.args.gauge.buffers c.loop-at.gauge.buffers c.loop-at.invariant.buffers (place-in _ _ _ _ _ _ c.loop-at-test.true c.stages.ensures c.machines.ensures c.requires.worker.slots.places) refl c.requires.buffers

pub with_slot-gauge-requires-clause-contexts : goal.with_slot-gauge-requires-clause-contexts
with_slot-gauge-requires-clause-contexts c =
    sum-fits (in_slot its_contexts) c.args.worker.now.slots.messages c.loop-at.at None (slice_index_or c.args.worker.now.slots.messages c.loop-at.at None)
    c.args.gauge.contexts c.loop-at.gauge.contexts c.loop-at.invariant.contexts (place-in _ _ _ _ _ _ c.loop-at-test.true c.stages.ensures c.machines.ensures c.requires.worker.slots.places) refl c.requires.contexts

pub loop-at-preserved : goal.loop-at-preserved
loop-at-preserved c = record {
  buffers =
      sum-next (in_slot one_buffer) c.args.worker.now.slots.messages c.loop-at.at None (slice_index_or c.args.worker.now.slots.messages c.loop-at.at None)
      c.args.gauge.buffers c.loop-at.gauge.buffers c.with_slot-gauge.result.buffers c.loop-at.invariant.buffers (place-in _ _ _ _ _ _ c.loop-at-test.true c.stages.ensures c.machines.ensures c.requires.worker.slots.places) refl c.with_slot-gauge.ensures.buffers;
  contexts =
      sum-next (in_slot its_contexts) c.args.worker.now.slots.messages c.loop-at.at None (slice_index_or c.args.worker.now.slots.messages c.loop-at.at None)
      c.args.gauge.contexts c.loop-at.gauge.contexts c.with_slot-gauge.result.contexts c.loop-at.invariant.contexts (place-in _ _ _ _ _ _ c.loop-at-test.true c.stages.ensures c.machines.ensures c.requires.worker.slots.places) refl c.with_slot-gauge.ensures.contexts;
}
