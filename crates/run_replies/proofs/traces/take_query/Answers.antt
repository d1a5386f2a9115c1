use Rattle.run_replies.proofs.Tracing.{taken_by}
use Rattle.run_replies.proofs.traces.take_query.Goals as goal

pub returns-in-Ok : goal.returns-in-Ok
returns-in-Ok c = λ job place is.
    taken_by c.args.header.now c.args.events.bytes.now job place c.args.texts.now c.args.asking _ c.shape_of-shape.result _ c.replay_text.result is c.in-Ok.ensures.over (rw c.stages.ensures.stages at c.shape_of-shape.ensures)
    c.requires.follows.lines c.replay_text.ensures
