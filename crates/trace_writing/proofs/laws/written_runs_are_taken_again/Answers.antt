use Rattle.trace_writing.proofs.Again.{taken_again}
use Rattle.trace_writing.proofs.laws.written_runs_are_taken_again.Goals as goal

pub returns : goal.returns
returns c = taken_again
