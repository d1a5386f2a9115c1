use Rattle.std.proofs.Common.{◌∙◌, sym}
use Rattle.graph_tables.proofs.GraphFacts.{length-edges_with}
use Rattle.graph_tables.proofs.bare.BareGraph.edges.Goals as goal

pub returns : goal.returns
returns c = rw (← c.self.view_is) (c.len.ensures ∙ sym (length-edges_with c.self.inside.edges c.self.inside.ends.items c.self.invariant.ends_beside))
