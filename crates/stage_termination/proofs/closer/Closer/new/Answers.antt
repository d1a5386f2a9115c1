use Rattle.stage_termination.proofs.Fronts.{fresh_front}
use Rattle.stage_termination.proofs.closer.Closer.new.Goals as goal

pub returns : goal.returns
returns c =
    fresh_front c.machines.result c.stages.result c.args.shape.now.machines c.args.shape.now.stages c.empty_table.result
    c.machines.ensures.number c.stages.ensures.number c.empty_table.ensures c.machines.ensures.sound.machines
