use Rattle.run_replies.proofs.Steps.{generated_gives}
use Rattle.run_replies.proofs.replies.generate.Goals as goal

pub returns-in-Ok-clause-gives : goal.returns-in-Ok-clause-gives
returns-in-Ok-clause-gives c =
    let made = c.in-Ok.ensures in
    let options = c.args.options.now in
    generated_gives options.vertices options.edges _ made.0 c.in-Ok.replies made.1 made.2
