use Rattle.std.proofs.Common.{◌∙◌, sym, ap, rules, w64, pos, slice_index_or, ℕ, List, Some}
use Rattle.std.specs.Option.{option_map}
use Rattle.element_store.specs.Columns.{Cell}
use Rattle.std.specs.Int.RustNames.{FitsSigned}
use Rattle.std.proofs.lemmas.Int.{to_z-of_z}
use Rattle.std.proofs.lemmas.Option.{slice_get-get_or}
use Rattle.element_store.proofs.ElementFacts.{joined_both, length-joined}
use Rattle.element_store.proofs.elements.Elements.get.Goals as goal

pub bounds-as_slice-number : goal.bounds-as_slice-number
bounds-as_slice-number c =
    let size = length-joined c.self.inside.keys.keys _ c.self.invariant.a_row_each in
    let less = rw (← c.self.view_is, size) at c.requires in
    rw c.as_slice.ensures.keys less

pub row_of-requires-clause-within : goal.row_of-requires-clause-within
row_of-requires-clause-within c =
    let size = length-joined c.self.inside.keys.keys _ c.self.invariant.a_row_each in
    let less = rw (← c.self.view_is, size) at c.requires in
    rw (c.deref.ensures.value, c.self.invariant.a_row_each) less

pub returns : goal.returns
returns c =
    let size = length-joined c.self.inside.keys.keys _ c.self.invariant.a_row_each in
    let less = rw (← c.self.view_is, size) at c.requires in
    let row = rw c.deref.ensures.value at c.row_of.ensures in
    let label = ap (option_map {T = ℕ × List (ℕ × Cell)} (λ r. r.0)) row ∙ ap Some (sym c.label.ensures) in
    let fits : FitsSigned w64 (slice_index_or c.as_slice.result.now c.args.number (pos 0)) = search rules in
    let key = to_z-of_z w64 (slice_index_or c.as_slice.result.now c.args.number (pos 0)) fits in
    rw (← c.self.view_is, key, c.as_slice.ensures.keys)
    (joined_both c.self.inside.keys.keys _ c.args.number (slice_index_or c.self.inside.keys.keys c.args.number (pos 0)) c.label.result c.self.invariant.a_row_each
    (slice_get-get_or c.self.inside.keys.keys c.args.number (pos 0) less) label)
