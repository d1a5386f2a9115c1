use Rattle.world_progress.specs.Choice.{AllFail}
use Rattle.world_progress.proofs.Tries.{none-of, if-none, parts-fail}
use Rattle.world_progress.proofs.choice.gone_round.Goals as goal

pub returns-clause-none : goal.returns-clause-none
returns-clause-none c =
    if-none _ _ c.first_of.result c.first_of.ensures.none (parts-fail c.args.world.now c.args.w c.args.start c.args.attempts.now
    (none-of _ c.first_of-event.result c.is_some.result c.is_some.ensures c.if-is_some.false c.first_of-event.ensures.none))
