use Rattle.run_trace.proofs.Replays.{replays_are_runs}
use Rattle.run_trace.proofs.laws.replays_are_runs.Goals as goal

pub returns : goal.returns
returns c = replays_are_runs
