use Rattle.credit_players.proofs.Fresh.{all_at_start}
use Rattle.credit_players.proofs.scenes.at_start.Goals as goal

pub returns : goal.returns
returns c = all_at_start c.args.credits.now c.args.seats.items c.requires.tiny c.requires.workers c.requires.roots c.requires.fresh
