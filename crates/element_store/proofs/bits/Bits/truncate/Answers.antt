use Rattle.std.proofs.Common.{◌∙◌, sym, arith}
use Rattle.element_store.proofs.BitFacts.{flags_front, holds_front, length-flags, take-flags}
use Rattle.element_store.proofs.bits.Bits.truncate.Goals as goal

pub invariant_of-self : goal.invariant_of-self
invariant_of-self c =
    let size = length-flags c.self.inside.words.items c.self.inside.len in
    let less = rw (← c.self.view_is, size) at c.requires in
    rw (c.truncate.ensures.items, c.div_ceil.ensures) (holds_front c.self.inside.words.items c.self.inside.len c.args.len c.self.invariant less)

pub returns : goal.returns
returns c =
    let size = length-flags c.self.inside.words.items c.self.inside.len in
    let less = rw (← c.self.view_is, size) at c.requires in
    rw (c.truncate.ensures.items, c.div_ceil.ensures, ← c.self.view_is)
    (flags_front c.self.inside.words.items _ c.args.len (omega arith) ∙ sym (take-flags c.self.inside.words.items c.args.len c.self.inside.len less))
