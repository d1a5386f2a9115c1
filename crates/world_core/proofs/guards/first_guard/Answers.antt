use Rattle.std.proofs.Common.{refl, sym, ◌∙◌}
use Rattle.world_core.specs.Step.{worker_of}
use Rattle.world_core.specs.World.{world_of}
use Rattle.world_core.proofs.Parts.{read-at, sound-part, guard-own, guard-shared}
use Rattle.world_core.proofs.guards.first_guard.Goals as goal

pub guard-requires : goal.guard-requires
guard-requires c =
    c.requires.own c.worker_of.result c.in-Some.worker.now (read-at c.args.workers.now c.worker_of.result c.worker_of.result c.in-Some.worker.now refl c.in-Some.ensures.lookup.0 c.in-Some.ensures.lookup.1)

pub shared_guard-requires : goal.shared_guard-requires
shared_guard-requires c =
    sound-part (world_of c.args.workers.now c.args.fabric.now) c.worker_of.result c.in-Some.worker.now c.requires
    (read-at c.args.workers.now c.worker_of.result c.worker_of.result c.in-Some.worker.now refl c.in-Some.ensures.lookup.0 c.in-Some.ensures.lookup.1)

pub returns-in-Some-guard : goal.returns-in-Some-guard
returns-in-Some-guard c =
    guard-own (world_of c.args.workers.now c.args.fabric.now) c.args.event.now c.in-Some.worker.now c.in-Some-guard.guard
    (read-at c.args.workers.now c.worker_of.result (worker_of c.args.event.now) c.in-Some.worker.now c.worker_of.ensures c.in-Some.ensures.lookup.0 c.in-Some.ensures.lookup.1)
    (sym c.guard.ensures ∙ c.in-Some-guard.is)

pub returns-in-None : goal.returns-in-None
returns-in-None c =
    c.shared_guard.ensures
    ∙ guard-shared (world_of c.args.workers.now c.args.fabric.now) c.args.event.now c.in-Some.worker.now
    (read-at c.args.workers.now c.worker_of.result (worker_of c.args.event.now) c.in-Some.worker.now c.worker_of.ensures c.in-Some.ensures.lookup.0 c.in-Some.ensures.lookup.1)
    (sym c.guard.ensures ∙ c.in-None.is)
