use Rattle.std.proofs.Common.{sym}
use Rattle.element_store.proofs.BitFacts.{length-flags}
use Rattle.element_store.proofs.bits.Bits.len.Goals as goal

pub returns : goal.returns
returns c = rw (← c.self.view_is) (sym (length-flags c.self.inside.words.items c.self.inside.len))
