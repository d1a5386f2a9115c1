use Rattle.std.proofs.Common.{◌∙◌, sym, arith}
use Rattle.element_store.proofs.ElementFacts.{length-joined}
use Rattle.element_store.proofs.elements.Elements.len.Goals as goal

pub overflow_cast-result : goal.overflow_cast-result
overflow_cast-result c =
    let size = length-joined c.self.inside.keys.keys _ c.self.invariant.a_row_each in
    let less = rw (← c.self.view_is, size) at c.requires in
    omega (arith, less, c.len.ensures.len)

pub returns : goal.returns
returns c = rw (← c.self.view_is) (c.len.ensures.len ∙ sym (length-joined c.self.inside.keys.keys _ c.self.invariant.a_row_each))
