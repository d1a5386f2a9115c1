use Rattle.query_traces.proofs.TakenAgain.{traces_taken_again}
use Rattle.query_traces.proofs.laws.traces_are_taken_again.Goals as goal

pub returns : goal.returns
returns c = traces_taken_again
