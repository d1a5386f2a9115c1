use Rattle.graph_tables.proofs.GraphFacts.{length-edges_with, label_with}
use Rattle.graph_tables.proofs.bare.BareGraph.label.Goals as goal

pub label-requires : goal.label-requires
label-requires c =
    let size = length-edges_with c.self.inside.edges c.self.inside.ends.items c.self.invariant.ends_beside in
    rw (← c.self.view_is, size) at c.requires

pub returns : goal.returns
returns c = rw (← c.self.view_is) (label_with c.self.inside.edges c.self.inside.ends.items c.args.number c.label.result c.self.invariant.ends_beside c.label.ensures)
