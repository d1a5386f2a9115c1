use Rattle.std.proofs.Common.{◌-◌, reverse, ap, subst, sym, ◌∙◌, arith}
use Rattle.std.proofs.lemmas.List.{take-set}
use Rattle.dfs_worker.specs.Passing.{TopPassed}
use Rattle.dfs_worker.specs.Tower.{Tower}
use Rattle.dfs_worker.proofs.Passing.{top-kept, top-off, top-below}
use Rattle.dfs_worker.proofs.stack.Stack.pass.Goals as goal

pub returns-then-not-kept-clause-passed : goal.returns-then-not-kept-clause-passed
returns-then-not-kept-clause-passed g c = λ rows.
    let tree = g.X.Expand.tree c.args.x.now in
    let xs = c.self.inside.frames.items in
    let top = c.index_mut.result.now in
    let n = c.len-count.result - 1 in
    let olds_are = ap (λ (t : Tower). t.frames) c.self.view_is in
    let low = top-below tree.stages n xs c.args.self.now.frames top top olds_are (omega arith) c.index_mut.ensures.value c.requires.below in
    subst (λ fs. TopPassed tree c.args.machine c.args.self.now.frames rows c.pass-passed.result.0 (reverse fs) rows) (sym (c.truncate.ensures.items ∙ take-set xs n c.pass-passed.new.frame))
    (top-off tree c.args.machine c.pass-passed.result.0 n xs c.args.self.now.frames top top rows (g.met.X.Expand.lawful c.args.x.now) low olds_are (omega arith)
    c.index_mut.ensures.value (rw c.if-not-kept.true at c.pass-passed.ensures))

pub returns-else-not-kept-clause-passed : goal.returns-else-not-kept-clause-passed
returns-else-not-kept-clause-passed g c = λ rows.
    let tree = g.X.Expand.tree c.args.x.now in
    let xs = c.self.inside.frames.items in
    let top = c.index_mut.result.now in
    let n = c.len-count.result - 1 in
    let olds_are = ap (λ (t : Tower). t.frames) c.self.view_is in
    let low = top-below tree.stages n xs c.args.self.now.frames top top olds_are (omega arith) c.index_mut.ensures.value c.requires.below in
    top-kept tree c.args.machine c.pass-passed.result.0 n xs c.args.self.now.frames c.pass-passed.new.frame top top rows (g.met.X.Expand.lawful c.args.x.now) low olds_are (omega arith)
    c.index_mut.ensures.value (rw c.if-not-kept.false at c.pass-passed.ensures)
