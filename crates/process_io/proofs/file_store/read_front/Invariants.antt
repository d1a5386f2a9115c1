use Rattle.std.proofs.Common.{◌≤◌, ◌+◌, length}
use Rattle.process_io.proofs.file_store.read_front.Given as goal

abbrev pub invariant-loop : goal.invariant-loop
invariant-loop g l = length l.into.items ≤ l.most + 1
