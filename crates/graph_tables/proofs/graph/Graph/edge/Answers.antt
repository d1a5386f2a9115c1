use Rattle.std.proofs.Common.{arith, rules, slice_index_or, w64}
use Rattle.std.proofs.lemmas.Option.{slice_get-get_or}
use Rattle.std.specs.Int.RustNames.{FitsSigned}
use Rattle.std.proofs.lemmas.Int.{to_z-of_z}
use Rattle.graph_tables.proofs.GraphFacts.{edges_with-get, ends_at, fields_are, length-edges_with, no_element}
use Rattle.graph_tables.proofs.graph.Graph.edge.Goals as goal

pub get-key-requires : goal.get-key-requires
get-key-requires c =
    let size = length-edges_with c.self.inside.loaded.edges.elements c.self.inside.loaded.ends.items c.self.invariant.ends_beside in
    rw (← c.self.view_is, size) at c.requires

pub index-ends-requires : goal.index-ends-requires
index-ends-requires c =
    let size = length-edges_with c.self.inside.loaded.edges.elements c.self.inside.loaded.ends.items c.self.invariant.ends_beside in
    let less = rw (← c.self.view_is, size) at c.requires in
    omega (arith, less, c.self.invariant.ends_beside, c.self.inside.loaded.ends.ok.0)

pub returns-clause-fields : goal.returns-clause-fields
returns-clause-fields c =
    let es = c.self.inside.loaded.edges.elements in
    let ends = c.self.inside.loaded.ends.items in
    let size = length-edges_with es ends c.self.invariant.ends_beside in
    let less = rw (← c.self.view_is, size) at c.requires in
    let e = slice_get-get_or es c.args.number no_element less in
    let at = slice_get-get_or ends c.args.number c.index-ends.result.now (omega (arith, less, c.self.invariant.ends_beside)) in
    let there = edges_with-get es ends c.args.number _ _ e at in
    let fits : FitsSigned w64 c.get-key.result.0 = search rules in
    let key = to_z-of_z w64 c.get-key.result.0 fits in
    let read = rw e at c.get-key.ensures in
    rw (← c.self.view_is, there, key, ← c.index-ends.ensures) (fields_are (slice_index_or es c.args.number no_element) c.get-key.result c.index-ends.result.now read)

pub returns-clause-source : goal.returns-clause-source
returns-clause-source c =
    let es = c.self.inside.loaded.edges.elements in
    let ends = c.self.inside.loaded.ends.items in
    let size = length-edges_with es ends c.self.invariant.ends_beside in
    let less = rw (← c.self.view_is, size) at c.requires in
    let e = slice_get-get_or es c.args.number no_element less in
    let at = slice_get-get_or ends c.args.number c.index-ends.result.now (omega (arith, less, c.self.invariant.ends_beside)) in
    let there = edges_with-get es ends c.args.number _ _ e at in
    rw (← c.self.view_is, c.index-ends.ensures) (ends_at c.self.inside.loaded.vertices.elements _ c.args.number _ c.self.invariant.ends there).0

pub returns-clause-target : goal.returns-clause-target
returns-clause-target c =
    let es = c.self.inside.loaded.edges.elements in
    let ends = c.self.inside.loaded.ends.items in
    let size = length-edges_with es ends c.self.invariant.ends_beside in
    let less = rw (← c.self.view_is, size) at c.requires in
    let e = slice_get-get_or es c.args.number no_element less in
    let at = slice_get-get_or ends c.args.number c.index-ends.result.now (omega (arith, less, c.self.invariant.ends_beside)) in
    let there = edges_with-get es ends c.args.number _ _ e at in
    rw (← c.self.view_is, c.index-ends.ensures) (ends_at c.self.inside.loaded.vertices.elements _ c.args.number _ c.self.invariant.ends there).1
