use Rattle.std.proofs.Common.{arith, refl}
use Rattle.graph_tables.proofs.GraphFacts.{without_ends-edges_with}
use Rattle.graph_loading.proofs.rows.cells_of.Goals as goal

pub overflow_add-result : goal.overflow_add-result
overflow_add-result c =
    let beside = without_ends-edges_with c.args.loading.now.edges.elements c.args.loading.now.ends.items c.requires.ends_beside in
    let few = rw beside at c.requires.few_cells in
    omega (arith, few, c.cells.ensures, c.cells-2.ensures)

pub returns : goal.returns
returns c =
    let beside = without_ends-edges_with c.args.loading.now.edges.elements c.args.loading.now.ends.items c.requires.ends_beside in
    rw (beside, c.cells.ensures, c.cells-2.ensures) refl
