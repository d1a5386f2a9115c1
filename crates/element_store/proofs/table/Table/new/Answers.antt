use Rattle.std.proofs.Common.{arith, refl}
use Rattle.element_store.specs.Tables.{RowsAreWords, rows_of}
use Rattle.element_store.proofs.table.Table.new.Goals as goal

pub invariant_of-result : goal.invariant_of-result
unfolding RowsAreWords
invariant_of-result c = rw c.new.ensures (record { a_cell_each = omega arith; words = tt; near = c.in_ok-near.ensures })

pub returns : goal.returns
unfolding rows_of
returns c = refl
