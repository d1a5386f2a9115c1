use Rattle.std.proofs.Common.{ap, arith}
use Rattle.adfs_base.specs.Shape.{Extents}
use Rattle.world_core.specs.Gauge.{in_machine, one_buffer, its_contexts}
use Rattle.world_core.proofs.Gauges.{below-fits}
use Rattle.world_core.proofs.gauge.with_inboxes.Goals as goal

pub with_machine-gauge-requires-clause-buffers : goal.with_machine-gauge-requires-clause-buffers
with_machine-gauge-requires-clause-buffers c =
    below-fits (in_machine one_buffer c.args.fabric.now) c.args.fabric.now.shape.machines c.loop-machine.machine
    c.args.gauge.buffers c.loop-machine.gauge.buffers c.loop-machine.invariant.buffers (omega (arith, ap (λ (s : Extents). s.machines) c.shape.ensures)) c.requires.buffers

pub with_machine-gauge-requires-clause-contexts : goal.with_machine-gauge-requires-clause-contexts
with_machine-gauge-requires-clause-contexts c =
    below-fits (in_machine its_contexts c.args.fabric.now) c.args.fabric.now.shape.machines c.loop-machine.machine
    c.args.gauge.contexts c.loop-machine.gauge.contexts c.loop-machine.invariant.contexts (omega (arith, ap (λ (s : Extents). s.machines) c.shape.ensures)) c.requires.contexts
