use Rattle.std.proofs.Common.{◌-◌, arith}
use Rattle.dfs_worker.proofs.Tops.{advanced-kept}
use Rattle.dfs_worker.proofs.stack.Stack.advance.Goals as goal

pub returns-else-not-branch-clause-frames : goal.returns-else-not-branch-clause-frames
returns-else-not-branch-clause-frames g c =
    let top = c.index_mut.result.now in
    advanced-kept c.self.inside.room c.self.inside.frames.items (c.len-count.result - 1) c.step.new.frame top top c.args.self.now
    (g.X.Expand.tree c.args.x.now) c.args.machine c.self.view_is (omega arith) c.index_mut.ensures.value
    (rw c.if-not-branch.false at c.in_ok-step.ensures.ok)
