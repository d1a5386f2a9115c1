use Rattle.trace_writing.proofs.SoFar.{so-far-begins, so-far-ends, so-far-more}
use Rattle.trace_writing.proofs.writing.write_events.Goals as goal

pub events-init : goal.events-init
events-init g c = so-far-begins (g.X.Expand.tree c.args.x.now) c.args.world.now c.args.out.now.items c.requires

pub events-preserved : goal.events-preserved
events-preserved g c =
    so-far-more (g.X.Expand.tree c.args.x.now) c.args.world.now c.events.world c.make.new.self c.args.out.now.items c.events.out.items c.put_line.new.out.items c.in-Some.event
    c.events.invariant c.in_ok-make.ensures.stepped c.in_ok-put_line.ensures.numbers c.in_ok-put_line.ensures.line c.make.ensures.fits c.make.ensures.owed

pub returns-in_default-clause-written : goal.returns-in_default-clause-written
returns-in_default-clause-written g c =
    so-far-ends (g.X.Expand.tree c.args.x.now) c.args.world.now c.events.world c.args.out.now.items c.events.out.items c.events.invariant c.in_default.ensures.none
