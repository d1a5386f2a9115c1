use Rattle.std.proofs.Common.{sym, subst}
use Rattle.dfs_worker.specs.Own.{frame_if}
use Rattle.dfs_worker.specs.Sound.{RestFits}
use Rattle.dfs_worker.proofs.Passing.{passes-rest, passes-on, passes-end}
use Rattle.dfs_worker.proofs.frames.pass.Goals as goal

pub move_on-requires-clause-roots_in : goal.move_on-requires-clause-roots_in
move_on-requires-clause-roots_in g c =
    let tree = g.X.Expand.tree c.args.x.now in
    let found = c.seek-passed.result in
    subst (λ r. RestFits (tree.roots c.args.machine) r)
    (sym (passes-rest tree c.args.machine found.0 c.args.frame.now c.seek-passed.new.frame found.1 c.seek-passed.ensures)) c.requires.roots_in

pub returns-in-End : goal.returns-in-End
returns-in-End g c =
    let found = c.seek-passed.result in
    passes-end (g.X.Expand.tree c.args.x.now) c.args.machine found.0 c.args.frame.now c.seek-passed.new.frame found.1
    (frame_if c.move_on.result c.move_on.new.frame) c.seek-passed.ensures c.in-End.is c.move_on.ensures

pub returns-in_default : goal.returns-in_default
returns-in_default g c =
    let found = c.seek-passed.result in
    passes-on (g.X.Expand.tree c.args.x.now) c.args.machine found.0 c.args.frame.now c.seek-passed.new.frame found.1 c.seek-passed.ensures c.in_default.not-End
