use Rattle.std.proofs.Common.{arith}
use Rattle.element_store.proofs.ElementFacts.{length-joined}
use Rattle.element_store.proofs.list.ElementList.len.Goals as goal

pub returns : goal.returns
returns c =
    let size = length-joined c.self.inside.keys.items _ c.self.invariant.a_row_each in
    rw (← c.self.view_is, size) (omega (arith, c.len.ensures, c.self.inside.keys.ok.0))
