use Rattle.fabric.specs.Shared.{inbox_at}
use Rattle.world_core.specs.Gauge.{messages_of, one_buffer, its_contexts}
use Rattle.world_core.proofs.Gauges.{sum-fits, sum-next, inbox-read}
use Rattle.world_core.proofs.gauge.with_inbox.Goals as goal

pub with_buffer-gauge-requires-clause-buffers : goal.with_buffer-gauge-requires-clause-buffers
with_buffer-gauge-requires-clause-buffers c =
    let read = inbox-read (inbox_at c.args.fabric.now c.args.machine c.args.stage) c.loop-place.place c.message-message.result.now c.message-message.ensures in
    sum-fits one_buffer (messages_of (inbox_at c.args.fabric.now c.args.machine c.args.stage)) c.loop-place.place c.message-message.result.now c.message-message.result.now
    c.args.gauge.buffers c.loop-place.gauge.buffers c.loop-place.invariant.buffers read.0 read.1 c.requires.buffers

pub with_buffer-gauge-requires-clause-contexts : goal.with_buffer-gauge-requires-clause-contexts
with_buffer-gauge-requires-clause-contexts c =
    let read = inbox-read (inbox_at c.args.fabric.now c.args.machine c.args.stage) c.loop-place.place c.message-message.result.now c.message-message.ensures in
    sum-fits its_contexts (messages_of (inbox_at c.args.fabric.now c.args.machine c.args.stage)) c.loop-place.place c.message-message.result.now c.message-message.result.now
    c.args.gauge.contexts c.loop-place.gauge.contexts c.loop-place.invariant.contexts read.0 read.1 c.requires.contexts

pub loop-place-preserved : goal.loop-place-preserved
loop-place-preserved c =
    let read = inbox-read (inbox_at c.args.fabric.now c.args.machine c.args.stage) c.loop-place.place c.message-message.result.now c.message-message.ensures in
    record {
      buffers =
          sum-next one_buffer (messages_of (inbox_at c.args.fabric.now c.args.machine c.args.stage)) c.loop-place.place c.message-message.result.now c.message-message.result.now
          c.args.gauge.buffers c.loop-place.gauge.buffers c.with_buffer-gauge.result.buffers c.loop-place.invariant.buffers read.0 read.1 c.with_buffer-gauge.ensures.buffers;
      contexts =
          sum-next its_contexts (messages_of (inbox_at c.args.fabric.now c.args.machine c.args.stage)) c.loop-place.place c.message-message.result.now c.message-message.result.now
          c.args.gauge.contexts c.loop-place.gauge.contexts c.with_buffer-gauge.result.contexts c.loop-place.invariant.contexts read.0 read.1 c.with_buffer-gauge.ensures.contexts;
    }
