use Rattle.std.proofs.Common.{◌<◌, sym, subst}
use Rattle.fabric.specs.Shared.{IsUnit, machine_of, flying_at, used_at}
use Rattle.world_core.proofs.Bodies.{post-may}
use Rattle.world_core.proofs.events.post.Goals as goal

pub post-requires-clause-unit : goal.post-requires-clause-unit
post-requires-clause-unit c =
    subst (λ w. IsUnit c.args.fabric.now (machine_of c.args.fabric.now w) c.args.stage c.args.to) (sym c.number.ensures)
    (post-may c.args.fabric.now c.args.worker.now c.args.stage c.args.to c.args.worker.now.number c.requires).0

pub post-requires-clause-taken : goal.post-requires-clause-taken
post-requires-clause-taken c =
    subst (λ w. flying_at c.args.fabric.now (machine_of c.args.fabric.now w) c.args.stage c.args.to < used_at c.args.fabric.now (machine_of c.args.fabric.now w) c.args.stage c.args.to) (sym c.number.ensures)
    (post-may c.args.fabric.now c.args.worker.now c.args.stage c.args.to c.args.worker.now.number c.requires).1
