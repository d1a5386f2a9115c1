use Rattle.world_core.proofs.Turns.{workers_may_turn}
use Rattle.world_core.proofs.laws.workers_may_turn.Goals as goal

pub returns : goal.returns
returns c = workers_may_turn
