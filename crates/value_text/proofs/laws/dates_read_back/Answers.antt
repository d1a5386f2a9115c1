use Rattle.value_text.proofs.ReadsBack.{dates_read_back}
use Rattle.value_text.proofs.laws.dates_read_back.Goals as goal

pub returns : goal.returns
returns c = dates_read_back
