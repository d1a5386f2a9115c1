use Rattle.std.proofs.Common.{arith, length}
use Rattle.element_store.proofs.RowFacts.{length-rows_of, row_within}
use Rattle.element_store.proofs.table.Table.start.Goals as goal

pub overflow_mul-result : goal.overflow_mul-result
overflow_mul-result c =
    let there = rw (← c.self.view_is, length-rows_of c.self.inside.columns c.self.inside.rows c.self.inside.cells) at c.requires in
    let within = row_within (length c.self.inside.columns) c.args.row c.self.inside.rows there in
    rw c.len.ensures.number (omega (arith, within, c.self.invariant.a_cell_each, c.len-cells.ensures.fits))
