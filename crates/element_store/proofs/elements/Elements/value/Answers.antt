use Rattle.std.proofs.Common.{◌∙◌, sym, ap, ℕ, List, Some}
use Rattle.std.specs.Option.{option_map}
use Rattle.element_store.specs.Columns.{Cell, value_of}
use Rattle.element_store.proofs.ElementFacts.{joined_rest, length-joined}
use Rattle.element_store.proofs.elements.Elements.value.Goals as goal

pub row_of-requires-clause-within : goal.row_of-requires-clause-within
row_of-requires-clause-within c =
    let size = length-joined c.self.inside.keys.keys _ c.self.invariant.a_row_each in
    let less = rw (← c.self.view_is, size) at c.requires in
    rw (c.deref.ensures.value, c.self.invariant.a_row_each) less

pub returns : goal.returns
returns c =
    let row = rw c.deref.ensures.value at c.row_of.ensures in
    let value = ap (option_map {T = ℕ × List (ℕ × Cell)} (λ r. value_of r.1 c.args.property)) row ∙ ap Some (sym c.value.ensures) in
    rw (← c.self.view_is) (joined_rest (λ r. value_of r.1 c.args.property) c.self.inside.keys.keys _ c.args.number c.value.result c.self.invariant.a_row_each value)
