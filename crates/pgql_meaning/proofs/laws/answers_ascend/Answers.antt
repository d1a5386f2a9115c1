use Rattle.pgql_meaning.proofs.ByKeys as by_keys
use Rattle.pgql_meaning.proofs.laws.answers_ascend.Goals as goal

pub returns : goal.returns
returns c = by_keys.answers_ascend
