use Rattle.std.proofs.Common.{ap}
use Rattle.dfs_worker.proofs.Stacks.{waiting-push}
use Rattle.dfs_worker.specs.State.{State}
use Rattle.dfs_worker.proofs.worker.Worker.descend.Goals as goal

pub push-requires : goal.push-requires
push-requires c =
    let is = c.self.view_is in
    waiting-push c.args.self.now c.self.inside.stack c.take_child.new.self c.self.inside.shape.stages (c.in-Some.stage, c.in-Some.field-0-1)
    c.requires (ap (λ (v : State). v.stack) is) (ap (λ (v : State). v.shape.stages) is) c.self.invariant c.in-Some.ensures c.take_child.ensures.taken
