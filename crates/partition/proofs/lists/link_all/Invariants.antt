use Rattle.std.proofs.Common.{take}
use Rattle.partition.specs.Kept.{HoldsLists}
use Rattle.partition.proofs.lists.link_all.Given as goal

abbrev pub invariant-loop-vertex : goal.invariant-loop-vertex
invariant-loop-vertex l = HoldsLists l.owners l.out l.graph.edges (take l.vertex-index l.numbers) l.lists
