use Rattle.std.proofs.Common.{◌<◌, sym, subst, arith}
use Rattle.world_core.specs.World.{World, world_of}
use Rattle.world_core.specs.Reach.{CanReach}
use Rattle.world_core.proofs.Ends.{closed-none}
use Rattle.world_core.proofs.world.World.closed.Goals as goal

pub returns-clause-stays : goal.returns-clause-stays
returns-clause-stays c = λ stage low reach.
    closed-none (world_of c.self.inside.workers.items c.self.inside.fabric) stage c.self.invariant (let e = c.closed_at.ensures in omega arith)
    (subst (λ (w : World). CanReach w stage) (sym c.self.view_is) reach)
