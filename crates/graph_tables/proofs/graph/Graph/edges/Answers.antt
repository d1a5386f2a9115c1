use Rattle.std.proofs.Common.{◌∙◌, sym}
use Rattle.graph_tables.proofs.GraphFacts.{length-edges_with}
use Rattle.graph_tables.proofs.graph.Graph.edges.Goals as goal

pub returns : goal.returns
returns c = rw (← c.self.view_is) (c.len.ensures ∙ sym (length-edges_with c.self.inside.loaded.edges.elements c.self.inside.loaded.ends.items c.self.invariant.ends_beside))
