use Rattle.std.proofs.Common.{refl}
use Rattle.dfs_worker.proofs.Passing.{if-passed}
use Rattle.dfs_worker.proofs.worker.Worker.advance_on.Goals as goal

pub returns-clause-ok : goal.returns-clause-ok
returns-clause-ok g c =
    if-passed (g.X.Expand.tree c.args.x.now) c.args.self.now _ _ c.advance_on.result c.self.view_is c.requires.enabled c.advance_on.ensures.ok refl
