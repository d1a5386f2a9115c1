use Rattle.std.proofs.Common.{◌+◌, ap, ◌∙◌}
use Rattle.world_progress.proofs.Runs.{goes-far, goes-more}
use Rattle.world_progress.proofs.run.run_to_end.Goals as goal

pub events-preserved : goal.events-preserved
events-preserved g c =
    goes-more (g.X.Expand.tree c.args.x.now) c.args.world.now c.events.world c.make.new.self c.args.steps.now c.events.steps c.tick-in-events.new.self c.events.w c.worker_of-w.result c.in-Some.event
    c.events.invariant c.in_ok-make.ensures.stepped c.in-Some.ensures.some c.worker_of-w.ensures c.tick-in-events.ensures c.make.ensures.fits c.make.ensures.owed c.in_ok-make.ensures.work

pub events-preserved-then-may_advance : goal.events-preserved-then-may_advance
events-preserved-then-may_advance g c =
    goes-far (g.X.Expand.tree c.args.x.now) c.args.world.now c.events.world c.advance.new.self c.args.steps.now c.events.steps c.tick.new.self c.events.w c.in_ok-passed.passed
    c.events.invariant c.in_ok-passed.ensures.made (c.tick.ensures ∙ ap (λ n. n + 1) c.add.ensures)
