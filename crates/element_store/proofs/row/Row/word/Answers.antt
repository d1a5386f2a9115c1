use Rattle.std.proofs.Common.{◌≡◌, ◌≢◌, ◌<◌, ◌∙◌, sym, arith, rules, length, slice_index_or, Some}
use Rattle.element_store.specs.Columns.{slot_of}
use Rattle.element_store.specs.Slots.{held_of, no_slot}
use Rattle.element_store.proofs.SlotFacts.{slot_within}
use Rattle.element_store.proofs.WordFacts.{held_column}
use Rattle.element_store.proofs.row.Row.word.Goals as goal

pub offset_bounds-self-inside-slot : goal.offset_bounds-self-inside-slot
offset_bounds-self-inside-slot c =
    let slot = slice_index_or c.self.inside.near.now c.args.property no_slot in
    let same : slot.held ≡ held_of c.args.kind = search rules in
    let found : slot_of c.self.inside.table.now.columns c.args.property ≡ Some (slot.place, c.args.kind) = sym (c.self.invariant.near_are c.args.property c.if-property-self.true) ∙ held_column slot c.args.kind same in
    let within = slot_within 0 c.self.inside.table.now.columns c.args.property slot.place c.args.kind found in
    let less : slot.place < length c.self.inside.words.now = omega (arith, within.1, c.self.invariant.words_are.a_word_each) in
    search rules

pub bounds-self-inside-slot : goal.bounds-self-inside-slot
bounds-self-inside-slot c =
    let slot = slice_index_or c.self.inside.near.now c.args.property no_slot in
    let same : slot.held ≡ held_of c.args.kind = search rules in
    let found : slot_of c.self.inside.table.now.columns c.args.property ≡ Some (slot.place, c.args.kind) = sym (c.self.invariant.near_are c.args.property c.if-property-self.true) ∙ held_column slot c.args.kind same in
    let within = slot_within 0 c.self.inside.table.now.columns c.args.property slot.place c.args.kind found in
    omega (arith, within.1, c.self.invariant.words_are.a_word_each)

pub returns-then-word : goal.returns-then-word
returns-then-word c =
    let slot = slice_index_or c.self.inside.near.now c.args.property no_slot in
    let same : slot.held ≡ held_of c.args.kind = search rules in
    let found : slot_of c.self.inside.table.now.columns c.args.property ≡ Some (slot.place, c.args.kind) = sym (c.self.invariant.near_are c.args.property c.if-property-self.true) ∙ held_column slot c.args.kind same in
    let other : slice_index_or c.self.inside.words.now slot.place 0 ≢ 18446744071562067968 = search rules in
    rw (← c.self.view_is) (sym (c.self.invariant.words_are.words_are c.args.property slot.place c.args.kind found other))
