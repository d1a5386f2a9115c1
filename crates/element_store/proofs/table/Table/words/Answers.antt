use Rattle.std.proofs.Common.{◌∙◌, arith, length}
use Rattle.element_store.proofs.RowFacts.{length-rows_of, row_inside}
use Rattle.element_store.proofs.RowReads.{words_read}
use Rattle.element_store.proofs.table.Table.words.Goals as goal

pub words-requires : goal.words-requires
words-requires c =
    let there = rw (← c.self.view_is, length-rows_of c.self.inside.columns c.self.inside.rows c.self.inside.cells) at c.requires.there in
    let begins = rw (← c.self.view_is) at c.requires.begins in
    let inside = row_inside (length c.self.inside.columns) c.args.row c.self.inside.rows there in
    rw (c.len.ensures.number, begins) (omega (arith, inside, c.self.invariant.a_cell_each))

pub returns : goal.returns
returns c =
    let there = rw (← c.self.view_is, length-rows_of c.self.inside.columns c.self.inside.rows c.self.inside.cells) at c.requires.there in
    let begins = rw (← c.self.view_is) at c.requires.begins in
    rw (← c.self.view_is)
    (words_read c.self.inside.columns c.self.inside.rows c.self.inside.cells c.args.row c.args.start there begins c.self.invariant.words c.words.result.now (c.words.ensures.length ∙ c.len.ensures.number)
    (λ i less other. c.words.ensures.there i (rw c.len.ensures.number less) other) c.self.inside.first c.self.inside.label)
