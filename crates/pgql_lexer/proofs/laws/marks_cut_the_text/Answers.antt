use Rattle.pgql_lexer.proofs.Cuts.{marks_cut}
use Rattle.pgql_lexer.proofs.laws.marks_cut_the_text.Goals as goal

pub returns : goal.returns
returns c = marks_cut
