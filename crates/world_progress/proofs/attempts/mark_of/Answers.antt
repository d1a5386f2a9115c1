use Rattle.std.proofs.Common.{◌<◌, ap, arith}
use Rattle.world_core.proofs.Travels.{shape-of}
use Rattle.world_progress.proofs.attempts.mark_of.Goals as goal

pub returns-clause-none : goal.returns-clause-none
returns-clause-none c = λ b low enabled.
    let machines = c.machines-b-end.ensures in
    let shape = ap (λ x. x.machines) (shape-of c.args.world.now c.args.w c.worker.result.now c.worker.ensures.sound c.worker.ensures.at) in
    c.loop-b.invariant b (omega arith) enabled
