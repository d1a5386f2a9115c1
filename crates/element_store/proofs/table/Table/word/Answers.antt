use Rattle.std.proofs.Common.{◌≡◌, ◌≢◌, ◌∙◌, sym, arith, rules}
use Rattle.element_store.specs.Slots.{held_of}
use Rattle.element_store.proofs.RowFacts.{length-rows_of}
use Rattle.element_store.proofs.RowReads.{cell_inside, other_word_read, word_read}
use Rattle.element_store.proofs.WordFacts.{held_column}
use Rattle.element_store.proofs.table.Table.word.Goals as goal

pub returns-then-ne : goal.returns-then-ne
returns-then-ne c =
    let there = rw (← c.self.view_is, length-rows_of c.self.inside.columns c.self.inside.rows c.self.inside.cells) at c.requires.there in
    let begins = rw (← c.self.view_is) at c.requires.begins in
    let other : c.near_slot-slot.result.held ≢ held_of c.args.kind = search rules in
    rw (← c.self.view_is) (sym (other_word_read c.self.inside.columns c.self.inside.rows c.self.inside.cells c.args.row c.args.start there begins c.args.property c.near_slot-slot.result c.args.kind c.near_slot-slot.ensures other c.self.invariant.a_cell_each))

pub overflow_add-start : goal.overflow_add-start
overflow_add-start c =
    let there = rw (← c.self.view_is, length-rows_of c.self.inside.columns c.self.inside.rows c.self.inside.cells) at c.requires.there in
    let begins = rw (← c.self.view_is) at c.requires.begins in
    let same : c.near_slot-slot.result.held ≡ held_of c.args.kind = search rules in
    let found = sym c.near_slot-slot.ensures ∙ held_column c.near_slot-slot.result c.args.kind same in
    let within = cell_inside c.self.inside.columns c.self.inside.rows c.self.inside.cells c.args.row c.args.start there begins c.args.property c.near_slot-slot.result.place c.args.kind found c.self.invariant.a_cell_each in
    omega (arith, within, c.len-cells.ensures.fits)

pub get-requires : goal.get-requires
get-requires c =
    let there = rw (← c.self.view_is, length-rows_of c.self.inside.columns c.self.inside.rows c.self.inside.cells) at c.requires.there in
    let begins = rw (← c.self.view_is) at c.requires.begins in
    let same : c.near_slot-slot.result.held ≡ held_of c.args.kind = search rules in
    let found = sym c.near_slot-slot.ensures ∙ held_column c.near_slot-slot.result c.args.kind same in
    cell_inside c.self.inside.columns c.self.inside.rows c.self.inside.cells c.args.row c.args.start there begins c.args.property c.near_slot-slot.result.place c.args.kind found c.self.invariant.a_cell_each

pub returns : goal.returns
returns c =
    let there = rw (← c.self.view_is, length-rows_of c.self.inside.columns c.self.inside.rows c.self.inside.cells) at c.requires.there in
    let begins = rw (← c.self.view_is) at c.requires.begins in
    let same : c.near_slot-slot.result.held ≡ held_of c.args.kind = search rules in
    let found = sym c.near_slot-slot.ensures ∙ held_column c.near_slot-slot.result c.args.kind same in
    rw (← c.self.view_is) (sym (word_read c.self.inside.columns c.self.inside.rows c.self.inside.cells c.args.row c.args.start there begins c.args.property c.near_slot-slot.result.place c.args.kind found c.get.result c.get.ensures c.self.invariant.words))
