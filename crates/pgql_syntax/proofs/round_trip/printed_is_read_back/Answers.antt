use Rattle.pgql_syntax.proofs.QueryBack.{read_back}
use Rattle.pgql_syntax.proofs.round_trip.printed_is_read_back.Goals as goal

pub returns : goal.returns
returns c = read_back 64
