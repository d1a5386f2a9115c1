use Rattle.std.proofs.Common.{◌∙◌, sym}
use Rattle.std.proofs.lemmas.Result.{err_from_is_err_and}
use Rattle.graph_tables.specs.Loading.{graph_of}
use Rattle.graph_tables.proofs.GraphFacts.{length-edges_with}
use Rattle.graph_loading.proofs.RowLaws.{edge_refused, edge_taken}
use Rattle.graph_loading.proofs.rows.take_edge.Goals as goal

pub returns-in_err-admit-clause-gives : goal.returns-in_err-admit-clause-gives
returns-in_err-admit-clause-gives c =
    let p = err_from_is_err_and c.from_residual.result c.from_residual.ensures.1 in
    let made = length-edges_with c.args.loading.now.edges.elements c.args.loading.now.ends.items c.requires.sound.ends_beside in
    let refused = rw (c.len.ensures ∙ sym made, c.cells_of-cells.ensures, c.len-columns.ensures.number, c.columns.ensures, c.len-2.ensures) at c.in_err-admit.ensures in
    rw (p.1, p.2) (edge_refused c.args.at c.args.loading.now.edges.label c.args.loading.now.edges.columns c.args.row.now (graph_of c.args.loading.now) c.in_err-admit.field-0.0 refused)

pub returns-clause-gives : goal.returns-clause-gives
returns-clause-gives c =
    let made = length-edges_with c.args.loading.now.edges.elements c.args.loading.now.ends.items c.requires.sound.ends_beside in
    let admitted = rw (c.len.ensures ∙ sym made, c.cells_of-cells.ensures, c.len-columns.ensures.number, c.columns.ensures, c.len-2.ensures) at c.in_ok-admit.ensures in
    rw (edge_taken c.args.at c.args.loading.now.edges.label c.args.loading.now.edges.columns c.args.row.now (graph_of c.args.loading.now) admitted) c.add_edge.ensures.gives
