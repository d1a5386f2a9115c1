use Rattle.std.proofs.Common.{arith}
use Rattle.std.proofs.lemmas.Option.{slice_get-get_or}
use Rattle.graph_tables.proofs.GraphFacts.{edges_with-get, length-edges_with, no_element, no_ends}
use Rattle.graph_tables.proofs.graph.Graph.edge_value.Goals as goal

pub value-requires : goal.value-requires
value-requires c =
    let size = length-edges_with c.self.inside.loaded.edges.elements c.self.inside.loaded.ends.items c.self.invariant.ends_beside in
    let less = rw (← c.self.view_is, size) at c.requires in
    less

pub returns : goal.returns
returns c =
    let es = c.self.inside.loaded.edges.elements in
    let ends = c.self.inside.loaded.ends.items in
    let size = length-edges_with es ends c.self.invariant.ends_beside in
    let less = rw (← c.self.view_is, size) at c.requires in
    let e = slice_get-get_or es c.args.number no_element less in
    let at = slice_get-get_or ends c.args.number no_ends (omega (arith, less, c.self.invariant.ends_beside)) in
    let there = edges_with-get es ends c.args.number _ _ e at in
    rw (← c.self.view_is, there) (rw e at c.value.ensures)
