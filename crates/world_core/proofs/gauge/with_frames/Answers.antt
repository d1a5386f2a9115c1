use Rattle.std.proofs.Common.{arith}
use Rattle.world_core.specs.Gauge.{in_frame, at_frame, one_buffer, its_contexts}
use Rattle.world_core.proofs.Gauges.{sum-fits, sum-next, sums-fit, sums-next}
use Rattle.world_core.proofs.gauge.with_frames.Goals as goal

pub with_frame-gauge-requires-clause-buffers : goal.with_frame-gauge-requires-clause-buffers
with_frame-gauge-requires-clause-buffers c =
    sum-fits (in_frame one_buffer) c.args.frames.now c.loop-frame.frame-index c.frame-item.result c.frame-item.result
    c.args.gauge.buffers c.loop-frame.gauge.buffers c.loop-frame.invariant.buffers (omega arith) c.frame-item.is c.requires.buffers

pub with_frame-gauge-requires-clause-contexts : goal.with_frame-gauge-requires-clause-contexts
with_frame-gauge-requires-clause-contexts c =
    sums-fit (in_frame its_contexts) at_frame c.args.frames.now c.loop-frame.frame-index c.frame-item.result c.frame-item.result
    c.args.gauge.contexts c.loop-frame.gauge.contexts c.loop-frame.invariant.contexts (omega arith) c.frame-item.is c.requires.contexts

pub loop-frame-preserved : goal.loop-frame-preserved
loop-frame-preserved c = record {
  buffers =
      sum-next (in_frame one_buffer) c.args.frames.now c.loop-frame.frame-index c.frame-item.result c.frame-item.result
      c.args.gauge.buffers c.loop-frame.gauge.buffers c.with_frame-gauge.result.buffers c.loop-frame.invariant.buffers (omega arith) c.frame-item.is c.with_frame-gauge.ensures.buffers;
  contexts =
      sums-next (in_frame its_contexts) at_frame c.args.frames.now c.loop-frame.frame-index c.frame-item.result c.frame-item.result
      c.args.gauge.contexts c.loop-frame.gauge.contexts c.with_frame-gauge.result.contexts c.loop-frame.invariant.contexts (omega arith) c.frame-item.is c.with_frame-gauge.ensures.contexts;
}
