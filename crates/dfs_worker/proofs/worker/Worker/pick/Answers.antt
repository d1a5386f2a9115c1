use Rattle.std.proofs.Common.{ap, sym, ◌∙◌}
use Rattle.dfs_worker.proofs.Stacks.{popped-push}
use Rattle.dfs_worker.specs.State.{State}
use Rattle.dfs_worker.proofs.worker.Worker.pick.Goals as goal

pub push-requires : goal.push-requires
push-requires c =
    let is = c.self.view_is in
    popped-push c.args.self.now c.self.inside.stack c.self.inside.shape.stages c.in-Popped.message
    c.requires (ap (λ (v : State). v.stack) is) (ap (λ (v : State). v.shape.stages) is) c.self.invariant
    (sym (ap (λ (v : State). v.hand) is) ∙ sym c.in-Popped.ensures.value)
