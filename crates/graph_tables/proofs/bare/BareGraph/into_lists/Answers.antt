use Rattle.std.proofs.Common.{sym}
use Rattle.graph_tables.proofs.GraphFacts.{without_ends-edges_with}
use Rattle.graph_tables.proofs.bare.BareGraph.into_lists.Goals as goal

pub returns-clause-edges : goal.returns-clause-edges
returns-clause-edges c = rw (← c.self.view_is) (sym (without_ends-edges_with c.self.inside.edges c.self.inside.ends.items c.self.invariant.ends_beside))
