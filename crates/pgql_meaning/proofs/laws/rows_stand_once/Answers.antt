use Rattle.pgql_meaning.proofs.Once as once
use Rattle.pgql_meaning.proofs.laws.rows_stand_once.Goals as goal

pub returns : goal.returns
returns c = once.rows_stand_once
