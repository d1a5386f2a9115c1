use Rattle.std.proofs.Common.{◌≡◌, map}
use Rattle.std.specs.List.{AllByRecursion, range_with_len}
use Rattle.partition.specs.Kept.{IsOwn}
use Rattle.partition.specs.declared.lists.Own.{Own}
use Rattle.partition.proofs.lists.own_each.Given as goal

abbrev pub invariant-loop-machine : goal.invariant-loop-machine
invariant-loop-machine l = record {
  machines : map (λ (own : Own). own.machine) l.all.items ≡ range_with_len 0 l.machine;
  own : AllByRecursion (IsOwn l.owners l.graph.edges) l.all.items;
}
