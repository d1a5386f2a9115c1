use Rattle.std.proofs.Common.{ℕ, List, ap}
use Rattle.std.specs.Option.{option_map}
use Rattle.element_store.specs.Columns.{Cell}
use Rattle.element_store.proofs.ElementFacts.{joined_rest, length-joined}
use Rattle.element_store.proofs.list.ElementList.row.Goals as goal

pub row_of-requires-clause-within : goal.row_of-requires-clause-within
row_of-requires-clause-within c =
    let size = length-joined c.self.inside.keys.items _ c.self.invariant.a_row_each in
    let less = rw (← c.self.view_is, size) at c.requires in
    rw (c.deref.ensures.value, c.self.invariant.a_row_each) less

pub returns : goal.returns
returns c =
    let read = rw c.deref.ensures.value at c.row_of.ensures in
    rw (← c.self.view_is)
    (joined_rest (λ r. r) c.self.inside.keys.items _ c.args.number c.row_of.result c.self.invariant.a_row_each (ap (option_map {T = ℕ × List (ℕ × Cell)} (λ r. r)) read))
