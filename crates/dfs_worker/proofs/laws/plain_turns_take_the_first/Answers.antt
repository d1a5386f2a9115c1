use Rattle.dfs_worker.proofs.Firsts.{takes-first}
use Rattle.dfs_worker.proofs.laws.plain_turns_take_the_first.Goals as goal

pub returns : goal.returns
returns c = takes-first
