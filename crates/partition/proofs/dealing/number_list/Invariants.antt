use Rattle.std.proofs.Common.{◌≡◌, ◌==◌, slice_index}
use Rattle.std.specs.List.{filter, range_with_len}
use Rattle.partition.proofs.dealing.number_list.Given as goal

abbrev pub invariant-loop-vertex : goal.invariant-loop-vertex
invariant-loop-vertex l = l.numbers.items ≡ filter (λ v. slice_index l.owners v == l.machine) (range_with_len 0 l.vertex)
