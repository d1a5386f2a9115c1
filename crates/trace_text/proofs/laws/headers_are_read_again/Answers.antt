use Rattle.trace_text.proofs.HeaderLines.{read_again}
use Rattle.trace_text.proofs.laws.headers_are_read_again.Goals as goal

pub returns : goal.returns
returns c = read_again
