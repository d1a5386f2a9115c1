use Rattle.std.proofs.Common.{◌≡◌, map}
use Rattle.partition.specs.Kept.{part_in}
use Rattle.partition.proofs.splitting.add_parts.Given as goal

abbrev pub invariant-loop-own : goal.invariant-loop-own
invariant-loop-own l = l.parts.items ≡ map (part_in l.machines l.shared.value) l.yielded
