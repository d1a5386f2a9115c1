use Rattle.pgql_meaning.proofs.Matches as matches
use Rattle.pgql_meaning.proofs.laws.matches_ascend.Goals as goal

pub returns : goal.returns
returns c = matches.matches_ascend
