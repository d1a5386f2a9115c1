use Rattle.std.proofs.Common.{◌≡◌, ◌+◌, ◌∙◌, ap, arith, slice_index_or, drop, length, length-drop}
use Rattle.std.proofs.lemmas.List.{get_or-drop, get_or-take, length-take-le}
use Rattle.element_store.proofs.CellFacts.{length-words_where, unmarked_there}
use Rattle.element_store.proofs.cells.Cells.words.Goals as goal

pub part_of-requires : goal.part_of-requires
part_of-requires c =
    let size = length-words_where c.self.inside.present c.self.inside.words.items c.self.invariant.a_flag_each in
    let less = rw (← c.self.view_is, size) at c.requires in
    rw c.deref.ensures.value less

pub returns-clause-length : goal.returns-clause-length
returns-clause-length c =
    let size = length-words_where c.self.inside.present c.self.inside.words.items c.self.invariant.a_flag_each in
    let less = rw (← c.self.view_is, size) at c.requires in
    let items = c.self.inside.words.items in
    ap length (rw c.deref.ensures.value at c.part_of.ensures) ∙ length-take-le c.args.count (drop c.args.start items) (omega (arith, length-drop c.args.start items, less))

pub returns-clause-there : goal.returns-clause-there
returns-clause-there c i within other =
    let size = length-words_where c.self.inside.present c.self.inside.words.items c.self.invariant.a_flag_each in
    let less = rw (← c.self.view_is, size) at c.requires in
    let items = c.self.inside.words.items in
    let read : slice_index_or c.part_of.result.now i 0 ≡ slice_index_or items (c.args.start + i) 0 =
    ap (λ xs. slice_index_or xs i 0) (rw c.deref.ensures.value at c.part_of.ensures) ∙ get_or-take c.args.count (drop c.args.start items) i 0 within ∙ get_or-drop c.args.start items i 0 in
    rw (← c.self.view_is, read)
    (unmarked_there c.self.inside.present items (c.args.start + i) c.self.invariant.a_flag_each c.self.invariant.marked (omega (arith, less, within)) (rw read at other))
