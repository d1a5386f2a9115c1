use Rattle.std.proofs.Common.{◌∙◌, sym, arith}
use Rattle.element_store.proofs.RowFacts.{length-rows_of}
use Rattle.element_store.proofs.RowReads.{cell_inside, null_read, value_read}
use Rattle.element_store.proofs.table.Table.value.Goals as goal

pub overflow_add-start : goal.overflow_add-start
overflow_add-start c =
    let there = rw (← c.self.view_is, length-rows_of c.self.inside.columns c.self.inside.rows c.self.inside.cells) at c.requires.there in
    let begins = rw (← c.self.view_is) at c.requires.begins in
    let found = sym c.near_slot.ensures ∙ sym c.in-Some.ensures in
    let within = cell_inside c.self.inside.columns c.self.inside.rows c.self.inside.cells c.args.row c.args.start there begins c.args.property c.in-Some.place c.in-Some.kind found c.self.invariant.a_cell_each in
    omega (arith, within, c.len-cells.ensures.fits)

pub get-requires : goal.get-requires
get-requires c =
    let there = rw (← c.self.view_is, length-rows_of c.self.inside.columns c.self.inside.rows c.self.inside.cells) at c.requires.there in
    let begins = rw (← c.self.view_is) at c.requires.begins in
    let found = sym c.near_slot.ensures ∙ sym c.in-Some.ensures in
    cell_inside c.self.inside.columns c.self.inside.rows c.self.inside.cells c.args.row c.args.start there begins c.args.property c.in-Some.place c.in-Some.kind found c.self.invariant.a_cell_each

pub returns-in-Some : goal.returns-in-Some
returns-in-Some c =
    let there = rw (← c.self.view_is, length-rows_of c.self.inside.columns c.self.inside.rows c.self.inside.cells) at c.requires.there in
    let begins = rw (← c.self.view_is) at c.requires.begins in
    let found = sym c.near_slot.ensures ∙ sym c.in-Some.ensures in
    rw (← c.self.view_is)
    (c.value_from.ensures ∙ sym (value_read c.self.inside.columns c.self.inside.rows c.self.inside.cells c.args.row c.args.start there begins c.args.property c.in-Some.place c.in-Some.kind found c.get.result c.get.ensures))

pub returns-in-None : goal.returns-in-None
returns-in-None c =
    let there = rw (← c.self.view_is, length-rows_of c.self.inside.columns c.self.inside.rows c.self.inside.cells) at c.requires.there in
    let begins = rw (← c.self.view_is) at c.requires.begins in
    let absent = sym c.near_slot.ensures ∙ sym c.in-None.ensures in
    rw (← c.self.view_is) (sym (null_read c.self.inside.columns c.self.inside.rows c.self.inside.cells c.args.row c.args.start there begins c.args.property absent))
