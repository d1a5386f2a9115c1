use Rattle.std.proofs.Common.{◌<◌, sym, subst}
use Rattle.world_core.specs.Stepped.{IsStepped, IfDone}
use Rattle.world_core.specs.Work.{work_left}
use Rattle.world_core.proofs.Made.{ok-done}
use Rattle.world_core.proofs.world.World.step.Goals as goal

pub returns-in-None-clause-stepped : goal.returns-in-None-clause-stepped
returns-in-None-clause-stepped g c =
    subst (λ r. IsStepped (g.X.Expand.tree c.args.x.now) c.args.self.now c.args.event.now r c.make.new.self) (sym c.stepped.ensures) c.make.ensures.stepped

pub returns-in-None-clause-work : goal.returns-in-None-clause-work
returns-in-None-clause-work g c =
    subst (λ r. IfDone r (work_left (g.X.Expand.tree c.args.x.now) c.make.new.self < work_left (g.X.Expand.tree c.args.x.now) c.args.self.now)) (sym c.stepped.ensures) (ok-done _ c.make.result c.make.ensures.work)
