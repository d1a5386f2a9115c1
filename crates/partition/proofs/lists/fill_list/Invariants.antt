use Rattle.std.proofs.Common.{◌-◌, ℕ, List, length}
use Rattle.graph_tables.specs.Graph.{Edge}
use Rattle.partition.specs.Kept.{links_at}
use Rattle.partition.proofs.ChainFacts.{Walks}
use Rattle.partition.proofs.lists.fill_list.Given as goal

abbrev pub invariant-edges : goal.invariant-edges
invariant-edges l = (rest : List (ℕ × Edge)) × Walks l.chains.next.items l.owners l.out l.graph.edges (links_at l.owners l.out l.graph.edges l.vertex) l.number l.list.items rest

abbrev pub decreases-edges : goal.decreases-edges
decreases-edges l = length (links_at l.owners l.out l.graph.edges l.vertex) - length l.list.items
