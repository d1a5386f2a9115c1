use Rattle.stage_plan.proofs.Whole.{plans_are_whole}
use Rattle.stage_plan.proofs.laws.plans_are_whole.Goals as goal

pub returns : goal.returns
returns c = plans_are_whole
