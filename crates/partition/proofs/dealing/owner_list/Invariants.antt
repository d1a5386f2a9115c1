use Rattle.std.proofs.Common.{◌≡◌, ◌<◌, map}
use Rattle.std.specs.List.{AllByRecursion, range_with_len}
use Rattle.partition.specs.Owners.{machine_of}
use Rattle.partition.proofs.dealing.owner_list.Given as goal

abbrev pub invariant-loop-vertex : goal.invariant-loop-vertex
invariant-loop-vertex l = record {
  owners : l.owners.items ≡ map (λ v. machine_of l.owner l.vertices l.machines v) (range_with_len 0 l.vertex);
  within : AllByRecursion (λ o. o < l.machines) l.owners.items;
}
