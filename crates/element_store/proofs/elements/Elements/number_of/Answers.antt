use Rattle.std.proofs.Common.{arith, w64}
use Rattle.std.proofs.lemmas.Int.{to_z-of_z}
use Rattle.element_store.proofs.ElementFacts.{keys_in-joined, length-joined}
use Rattle.element_store.proofs.elements.Elements.number_of.Goals as goal

pub overflow_cast-result : goal.overflow_cast-result
overflow_cast-result c =
    let size = length-joined c.self.inside.keys.keys _ c.self.invariant.a_row_each in
    let less = rw (← c.self.view_is, size) at c.requires in
    omega (arith, less, c.in-Some.ensures.within)

pub returns-in-Some : goal.returns-in-Some
returns-in-Some c =
    let key = to_z-of_z w64 c.args.key c.ranges.key in
    rw (← c.self.view_is, keys_in-joined c.self.inside.keys.keys _ c.self.invariant.a_row_each) (rw key at c.in-Some.ensures.index)

pub returns-in-None : goal.returns-in-None
returns-in-None c =
    let key = to_z-of_z w64 c.args.key c.ranges.key in
    rw (← c.self.view_is, keys_in-joined c.self.inside.keys.keys _ c.self.invariant.a_row_each) (rw key at c.in-None.ensures.index)
