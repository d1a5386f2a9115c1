use Rattle.world_progress.proofs.Runs.{if-ok, rows-are}
use Rattle.world_progress.proofs.run.counted_rows.Goals as goal

pub returns : goal.returns
returns g c =
    if-ok _ _ c.into_rows.result c.into_rows.ensures (λ rows is.
    rows-are (g.X.Expand.tree c.args.x.now) c.args.shape.now c.in_ok-world.world c.run_to_end.new.world rows.items c.requires.machines c.in_ok-world.ensures.start
    c.in_ok-run_to_end.ensures.sound c.in_ok-run_to_end.ensures.finished c.run_to_end.ensures.owed is)
