use Rattle.world_progress.proofs.Stuck.{never_stuck}
use Rattle.world_progress.proofs.laws.never_stuck.Goals as goal

pub returns : goal.returns
returns c = never_stuck
