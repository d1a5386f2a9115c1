use Rattle.std.proofs.Common.{length, refl, ap, arith}
use Rattle.match_context.specs.Batch.{Batch}
use Rattle.world_core.specs.Gauge.{one_buffer, its_contexts}
use Rattle.world_core.proofs.Gauges.{slot-counts}
use Rattle.world_core.proofs.gauge.with_slot.Goals as goal

pub with_buffer-requires-clause-buffers : goal.with_buffer-requires-clause-buffers
with_buffer-requires-clause-buffers c =
    let one = slot-counts one_buffer _ c.in-Some.buffer.now 1 (λ m e. refl) c.in-Some.ensures in
    omega arith

pub with_buffer-requires-clause-contexts : goal.with_buffer-requires-clause-contexts
with_buffer-requires-clause-contexts c =
    let its = slot-counts its_contexts _ c.in-Some.buffer.now _ (λ m e. ap (λ (b : Batch). length b.items) e) c.in-Some.ensures in
    omega arith

pub returns-in-Some-clause-buffers : goal.returns-in-Some-clause-buffers
returns-in-Some-clause-buffers c =
    let one = slot-counts one_buffer _ c.in-Some.buffer.now 1 (λ m e. refl) c.in-Some.ensures in
    omega arith

pub returns-in-Some-clause-contexts : goal.returns-in-Some-clause-contexts
returns-in-Some-clause-contexts c =
    let its = slot-counts its_contexts _ c.in-Some.buffer.now _ (λ m e. ap (λ (b : Batch). length b.items) e) c.in-Some.ensures in
    omega arith
