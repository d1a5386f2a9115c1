use Rattle.value_text.proofs.Numerals.{ints_read_back}
use Rattle.value_text.proofs.laws.ints_read_back.Goals as goal

pub returns : goal.returns
returns c = ints_read_back
