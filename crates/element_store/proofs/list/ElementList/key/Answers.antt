use Rattle.std.proofs.Common.{◌∙◌, sym, ap, arith, rules, w64, pos, Some}
use Rattle.std.specs.Int.RustNames.{FitsSigned}
use Rattle.std.proofs.lemmas.Int.{to_z-of_z}
use Rattle.std.proofs.lemmas.List.{get_or_read}
use Rattle.std.proofs.lemmas.Option.{slice_get-get_or}
use Rattle.element_store.proofs.ElementFacts.{joined_key, length-joined}
use Rattle.element_store.proofs.list.ElementList.key.Goals as goal

pub index-requires : goal.index-requires
index-requires c =
    let size = length-joined c.self.inside.keys.items _ c.self.invariant.a_row_each in
    let less = rw (← c.self.view_is, size) at c.requires in
    omega (arith, less, c.self.inside.keys.ok.0)

pub returns : goal.returns
returns c =
    let size = length-joined c.self.inside.keys.items _ c.self.invariant.a_row_each in
    let less = rw (← c.self.view_is, size) at c.requires in
    let read = get_or_read c.self.inside.keys.items c.args.number _ less c.index.ensures (pos 0) in
    let fits : FitsSigned w64 c.index.result.now = search rules in
    rw (← c.self.view_is, to_z-of_z w64 c.index.result.now fits)
    (joined_key c.self.inside.keys.items _ c.args.number c.index.result.now c.self.invariant.a_row_each (slice_get-get_or c.self.inside.keys.items c.args.number (pos 0) less ∙ ap Some (sym read)))
