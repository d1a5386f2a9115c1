use Rattle.std.proofs.Common.{ap, arith}
use Rattle.adfs_base.specs.Shape.{Extents}
use Rattle.fabric.specs.Shared.{inbox_at}
use Rattle.world_core.specs.Gauge.{in_inbox, one_buffer, its_contexts}
use Rattle.world_core.proofs.Gauges.{below-fits}
use Rattle.world_core.proofs.gauge.with_machine.Goals as goal

pub with_inbox-gauge-requires-clause-buffers : goal.with_inbox-gauge-requires-clause-buffers
with_inbox-gauge-requires-clause-buffers c =
    below-fits (λ stage. in_inbox one_buffer (inbox_at c.args.fabric.now c.args.machine stage)) c.args.fabric.now.shape.stages c.loop-stage.stage
    c.args.gauge.buffers c.loop-stage.gauge.buffers c.loop-stage.invariant.buffers (omega (arith, ap (λ (s : Extents). s.stages) c.shape.ensures)) c.requires.buffers

pub with_inbox-gauge-requires-clause-contexts : goal.with_inbox-gauge-requires-clause-contexts
with_inbox-gauge-requires-clause-contexts c =
    below-fits (λ stage. in_inbox its_contexts (inbox_at c.args.fabric.now c.args.machine stage)) c.args.fabric.now.shape.stages c.loop-stage.stage
    c.args.gauge.contexts c.loop-stage.gauge.contexts c.loop-stage.invariant.contexts (omega (arith, ap (λ (s : Extents). s.stages) c.shape.ensures)) c.requires.contexts
