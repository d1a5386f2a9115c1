use Rattle.pgql_lexer.proofs.Ends.{comment_ends}
use Rattle.pgql_lexer.proofs.laws.comments_end_at_the_first_close.Goals as goal

pub returns : goal.returns
returns c = comment_ends
