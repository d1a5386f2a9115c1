use Rattle.world_progress.proofs.Runs.{if-ok, rows-are}
use Rattle.world_core.specs.World.{start_world}
use Rattle.trace_writing.proofs.SoFar.{all-written}
use Rattle.trace_writing.proofs.writing.write_run.Goals as goal

pub returns-clause-written : goal.returns-clause-written
returns-clause-written g c =
    if-ok _ _ c.into_rows.result c.into_rows.ensures (λ rows is.
    all-written (g.X.Expand.tree c.args.x.now) (start_world c.args.shape.now (g.X.Expand.tree c.args.x.now)) c.in_ok-world.world c.write_events.new.world
    c.args.out.now.items c.write_events.new.out.items c.extend_from_slice.new.self.items rows.items c.in_ok-world.ensures.start
    c.in_ok-write_events.ensures.written c.in_ok-extend_from_slice.ensures.items is)

pub returns-clause-leaves : goal.returns-clause-leaves
returns-clause-leaves g c =
    if-ok _ _ c.into_rows.result c.into_rows.ensures (λ rows is.
    rows-are (g.X.Expand.tree c.args.x.now) c.args.shape.now c.in_ok-world.world c.write_events.new.world rows.items c.requires.machines c.in_ok-world.ensures.start
    c.in_ok-write_events.ensures.sound c.in_ok-write_events.ensures.written.finished c.in_ok-write_events.ensures.owed is)
