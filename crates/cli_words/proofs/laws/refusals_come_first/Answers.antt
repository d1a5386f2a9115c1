use Rattle.cli_words.proofs.Refusals.{first_refused}
use Rattle.cli_words.proofs.laws.refusals_come_first.Goals as goal

pub returns : goal.returns
returns c = first_refused
