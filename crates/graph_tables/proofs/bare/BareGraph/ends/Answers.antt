use Rattle.std.proofs.Common.{arith, refl}
use Rattle.std.proofs.lemmas.Option.{slice_get-get_or}
use Rattle.graph_tables.proofs.GraphFacts.{edges_with-get, ends_at, length-edges_with, no_element}
use Rattle.graph_tables.proofs.bare.BareGraph.ends.Goals as goal

pub index-ends-requires : goal.index-ends-requires
index-ends-requires c =
    let size = length-edges_with c.self.inside.edges c.self.inside.ends.items c.self.invariant.ends_beside in
    let less = rw (← c.self.view_is, size) at c.requires in
    omega (arith, less, c.self.invariant.ends_beside, c.self.inside.ends.ok.0)

pub returns-clause-fields : goal.returns-clause-fields
returns-clause-fields c =
    let es = c.self.inside.edges in
    let ends = c.self.inside.ends.items in
    let size = length-edges_with es ends c.self.invariant.ends_beside in
    let less = rw (← c.self.view_is, size) at c.requires in
    let e = slice_get-get_or es c.args.number no_element less in
    let at = slice_get-get_or ends c.args.number c.index-ends.result.now (omega (arith, less, c.self.invariant.ends_beside)) in
    let there = edges_with-get es ends c.args.number _ _ e at in
    rw (← c.self.view_is, there, ← c.index-ends.ensures) refl

pub returns-clause-source : goal.returns-clause-source
returns-clause-source c =
    let es = c.self.inside.edges in
    let ends = c.self.inside.ends.items in
    let size = length-edges_with es ends c.self.invariant.ends_beside in
    let less = rw (← c.self.view_is, size) at c.requires in
    let e = slice_get-get_or es c.args.number no_element less in
    let at = slice_get-get_or ends c.args.number c.index-ends.result.now (omega (arith, less, c.self.invariant.ends_beside)) in
    let there = edges_with-get es ends c.args.number _ _ e at in
    rw (← c.self.view_is, c.index-ends.ensures) (ends_at c.self.inside.vertices _ c.args.number _ c.self.invariant.at_vertices there).0

pub returns-clause-target : goal.returns-clause-target
returns-clause-target c =
    let es = c.self.inside.edges in
    let ends = c.self.inside.ends.items in
    let size = length-edges_with es ends c.self.invariant.ends_beside in
    let less = rw (← c.self.view_is, size) at c.requires in
    let e = slice_get-get_or es c.args.number no_element less in
    let at = slice_get-get_or ends c.args.number c.index-ends.result.now (omega (arith, less, c.self.invariant.ends_beside)) in
    let there = edges_with-get es ends c.args.number _ _ e at in
    rw (← c.self.view_is, c.index-ends.ensures) (ends_at c.self.inside.vertices _ c.args.number _ c.self.invariant.at_vertices there).1
