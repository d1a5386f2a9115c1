use Rattle.std.proofs.Common.{w64}
use Rattle.std.proofs.lemmas.Int.{to_z-of_z}
use Rattle.graph_tables.proofs.graph.Graph.vertex_of.Goals as goal

pub returns : goal.returns
returns c = let key = to_z-of_z w64 c.args.key c.ranges.key in rw (← c.self.view_is) (rw key at c.number_of.ensures)
