use Rattle.std.proofs.Common.{◌≡◌, replicate}
use Rattle.fabric.specs.Queue.{empty_queue}
use Rattle.fabric.proofs.plain.new_inboxes.Given as goal

abbrev pub invariant-loop-i : goal.invariant-loop-i
invariant-loop-i l = l.inboxes.items ≡ replicate l.i (empty_queue l.room)
