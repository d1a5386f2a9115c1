use Rattle.std.proofs.Common.{◌≡◌, Some, length, map, take}
use Rattle.partition.proofs.owner_file.each_owned.Given as goal

-- the vertices so far have these machines
abbrev pub invariant-loop-vertex : goal.invariant-loop-vertex
invariant-loop-vertex l = record {
  so_far : take l.vertex l.owners ≡ map Some l.machines.items;
  count : length l.machines.items ≡ l.vertex;
}
