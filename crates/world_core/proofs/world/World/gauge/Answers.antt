use Rattle.std.proofs.Common.{sym, ap, ◌∙◌, arith}
use Rattle.std.specs.Prelude.{slice_get}
use Rattle.match_context.specs.Bags.{total}
use Rattle.world_core.specs.Gauge.{in_worker, in_inboxes, one_buffer, its_contexts, at_worker}
use Rattle.world_core.proofs.Bounds.{bounded, small}
use Rattle.world_core.proofs.world.World.gauge.Goals as goal

pub with_workers-requires-clause-workers : goal.with_workers-requires-clause-workers
with_workers-requires-clause-workers c =
    λ i v at. c.workers.ensures.sound.own i v (sym (ap (λ ws. slice_get ws i) c.workers.ensures.workers) ∙ at)

pub with_workers-requires-clause-buffers : goal.with_workers-requires-clause-buffers
with_workers-requires-clause-buffers c =
    let w = c.args.self.now in
    let low = (bounded w c.workers.ensures.sound).buffers in
    let most = (small w.shared.shape c.workers.ensures.sound.tables.shape).0 in
    let same = ap (total (in_worker one_buffer)) c.workers.ensures.workers in
    omega arith

pub with_workers-requires-clause-contexts : goal.with_workers-requires-clause-contexts
with_workers-requires-clause-contexts c =
    let w = c.args.self.now in
    let low = (bounded w c.workers.ensures.sound).contexts in
    let most = (small w.shared.shape c.workers.ensures.sound.tables.shape).1 in
    let same = ap (total (in_worker its_contexts)) c.workers.ensures.workers in
    let own = ap (total at_worker) c.workers.ensures.workers in
    omega arith

pub with_inboxes-requires-clause-buffers : goal.with_inboxes-requires-clause-buffers
with_inboxes-requires-clause-buffers c =
    let w = c.args.self.now in
    let low = (bounded w c.workers.ensures.sound).buffers in
    let most = (small w.shared.shape c.workers.ensures.sound.tables.shape).0 in
    let same = ap (total (in_worker one_buffer)) c.workers.ensures.workers in
    let rest = ap (in_inboxes one_buffer) c.fabric.ensures in
    omega arith

pub with_inboxes-requires-clause-contexts : goal.with_inboxes-requires-clause-contexts
with_inboxes-requires-clause-contexts c =
    let w = c.args.self.now in
    let low = (bounded w c.workers.ensures.sound).contexts in
    let most = (small w.shared.shape c.workers.ensures.sound.tables.shape).1 in
    let same = ap (total (in_worker its_contexts)) c.workers.ensures.workers in
    let own = ap (total at_worker) c.workers.ensures.workers in
    let rest = ap (in_inboxes its_contexts) c.fabric.ensures in
    omega arith

pub returns-clause-bounded : goal.returns-clause-bounded
returns-clause-bounded c =
    let w = c.args.self.now in
    let low = bounded w c.workers.ensures.sound in
    let buffers = low.buffers in
    let contexts = low.contexts in
    let same = ap (total (in_worker one_buffer)) c.workers.ensures.workers in
    let same2 = ap (total (in_worker its_contexts)) c.workers.ensures.workers in
    let own = ap (total at_worker) c.workers.ensures.workers in
    let rest = ap (in_inboxes one_buffer) c.fabric.ensures in
    let rest2 = ap (in_inboxes its_contexts) c.fabric.ensures in
    record { buffers = omega arith; contexts = omega arith }
