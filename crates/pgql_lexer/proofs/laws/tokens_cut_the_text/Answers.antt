use Rattle.pgql_lexer.proofs.Cuts.{tokens_cut}
use Rattle.pgql_lexer.proofs.laws.tokens_cut_the_text.Goals as goal

pub returns : goal.returns
returns c = tokens_cut
