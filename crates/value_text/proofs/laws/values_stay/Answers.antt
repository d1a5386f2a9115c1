use Rattle.value_text.proofs.Staying.{values_stay}
use Rattle.value_text.proofs.laws.values_stay.Goals as goal

pub returns : goal.returns
returns c = values_stay
