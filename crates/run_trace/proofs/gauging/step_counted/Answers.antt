use Rattle.std.proofs.Common.{◌∙◌, ap}
use Rattle.run_trace.specs.Gauging.{moved, put_out, taken_back, top_of}
use Rattle.run_trace.proofs.Counted.{held-fits, step-counts, step-fitting, step-gauge}
use Rattle.run_trace.proofs.gauging.step_counted.Goals as goal

pub counted-requires-clause-held : goal.counted-requires-clause-held
counted-requires-clause-held g c = rw c.top_of-before.ensures.top (held-fits c.args.world.now c.args.event.now c.top_of-before.ensures.sound)

pub counted-requires-clause-fits : goal.counted-requires-clause-fits
counted-requires-clause-fits g c =
    let counts = step-counts (g.X.Expand.tree c.args.x.now) c.args.world.now c.step.new.self c.args.event.now c.top_of-before.ensures.sound c.in-Done.ensures.stepped in
    rw c.top_of-before.ensures.top (step-fitting c.args.world.now c.step.new.self c.args.event.now c.args.gauge.now c.top_of-before.ensures.sound counts c.requires.counted)

pub returns-in-Done-clause-counted : goal.returns-in-Done-clause-counted
returns-in-Done-clause-counted g c =
    let counts = step-counts (g.X.Expand.tree c.args.x.now) c.args.world.now c.step.new.self c.args.event.now c.top_of-before.ensures.sound c.in-Done.ensures.stepped in
    c.counted.ensures ∙ ap (λ top. moved c.args.gauge.now (put_out c.args.event.now top (top_of c.step.new.self c.args.event.now)) (taken_back c.args.event.now top (top_of c.step.new.self c.args.event.now))) c.top_of-before.ensures.top
    ∙ step-gauge c.args.world.now c.step.new.self c.args.event.now c.args.gauge.now counts c.requires.counted
