use Rattle.pgql_meaning.proofs.Matches as matches
use Rattle.pgql_meaning.proofs.laws.matches_fit.Goals as goal

pub returns : goal.returns
returns c = matches.matches_fit
