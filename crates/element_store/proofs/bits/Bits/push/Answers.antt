use Rattle.std.proofs.Common.{◌∙◌, arith, refl}
use Rattle.element_store.proofs.BitFacts.{flags_push, length-flags}
use Rattle.element_store.proofs.bits.Bits.push.Goals as goal

pub overflow_add-self : goal.overflow_add-self
overflow_add-self c =
    let size = length-flags c.self.inside.words.items c.self.inside.len in
    let less = rw (← c.self.view_is) at c.requires in
    omega (arith, size, less)

pub returns-clause-ok : goal.returns-clause-ok
returns-clause-ok c =
    flags_push c.set.new.words.items c.self.inside.len ∙ rw (c.set.ensures.same, c.set.ensures.flag, c.in_ok-make_room.ensures.same, ← c.self.view_is) refl
