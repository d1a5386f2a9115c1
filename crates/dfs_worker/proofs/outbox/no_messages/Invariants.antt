use Rattle.std.proofs.Common.{◌≡◌, replicate, None}
use Rattle.dfs_worker.proofs.outbox.no_messages.Given as goal

abbrev pub invariant-loop : goal.invariant-loop
invariant-loop l = l.messages.items ≡ replicate l.counter None
