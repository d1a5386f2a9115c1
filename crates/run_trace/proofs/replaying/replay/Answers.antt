use Rattle.std.proofs.Common.{sym, subst}
use Rattle.run_trace.specs.Rowless.{IsRowless}
use Rattle.run_trace.proofs.Rowless.{start-rowless}
use Rattle.run_trace.proofs.replaying.replay.Goals as goal

pub replay_lines-requires-clause-rowless : goal.replay_lines-requires-clause-rowless
replay_lines-requires-clause-rowless g c =
    subst IsRowless (sym c.in_ok-world.ensures.start) (start-rowless c.args.shape.now (g.X.Expand.tree c.args.x.now))
