use Rattle.std.proofs.Common.{◌/◌, ◌%◌, ◌∙◌, arith, refl}
use Rattle.std.proofs.lemmas.List.{get_or_read}
use Rattle.std.proofs.lemmas.Nat.Bits.{shr_and_one}
use Rattle.element_store.proofs.BitFacts.{flags_get, length-flags}
use Rattle.element_store.proofs.bits.Bits.get.Goals as goal

pub index-requires : goal.index-requires
index-requires c =
    let size = length-flags c.self.inside.words.items c.self.inside.len in
    let less = rw (← c.self.view_is) at c.requires in
    omega (arith, size, less, c.self.inside.words.ok.0, c.self.invariant.room)

pub returns : goal.returns
returns c =
    let size = length-flags c.self.inside.words.items c.self.inside.len in
    let less = rw (← c.self.view_is, size) at c.requires in
    let word = get_or_read c.self.inside.words.items (c.args.i / 64) _ (omega (arith, c.self.inside.words.ok.0, less, c.self.invariant.room)) c.index.ensures 0 in
    rw (← c.self.view_is, shr_and_one c.index.result.now (c.args.i % 64)) (flags_get c.self.inside.words.items c.self.inside.len c.args.i less ∙ rw word refl)
