use Rattle.std.proofs.Common.{refl}
use Rattle.element_store.proofs.elements.Elements.into_list.Goals as goal

pub new-requires : goal.new-requires
new-requires c = rw (c.in_ok-keys.ensures.items, c.as_slice.ensures.keys) (record { a_row_each = c.self.invariant.a_row_each; stacked = c.self.invariant.stacked })

pub returns : goal.returns
returns c = rw (c.new.ensures, c.in_ok-keys.ensures.items, c.as_slice.ensures.keys, ← c.self.view_is) refl
