use Rattle.pgql_lexer.proofs.Ends.{literal_ends}
use Rattle.pgql_lexer.proofs.laws.literals_end_at_the_first_lone_quote.Goals as goal

pub returns : goal.returns
returns c = literal_ends
