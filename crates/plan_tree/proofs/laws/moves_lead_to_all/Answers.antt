use Rattle.plan_tree.proofs.AllRows.{moves_lead_to_all}
use Rattle.plan_tree.proofs.laws.moves_lead_to_all.Goals as goal

pub returns : goal.returns
returns c = moves_lead_to_all
