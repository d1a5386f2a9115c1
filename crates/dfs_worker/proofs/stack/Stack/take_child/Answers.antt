use Rattle.std.proofs.Common.{◌-◌, arith}
use Rattle.dfs_worker.proofs.Tops.{taken-child}
use Rattle.dfs_worker.proofs.stack.Stack.take_child.Goals as goal

pub returns-clause-taken : goal.returns-clause-taken
returns-clause-taken c =
    let top = c.index_mut-frame.result.now in
    taken-child c.self.inside.room c.self.inside.frames.items (c.len-count.result - 1) top top c.args.self.now
    c.self.view_is (omega arith) c.index_mut-frame.ensures.value
