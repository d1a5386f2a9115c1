use Rattle.std.proofs.Common.{◌∙◌, sym, ap, arith, length-take, min}
use Rattle.element_store.proofs.CellFacts.{length-words_where, marked-take, words_where-take}
use Rattle.element_store.proofs.cells.Cells.truncate.Goals as goal

pub truncate-requires-2 : goal.truncate-requires-2
truncate-requires-2 c =
    let size = length-words_where c.self.inside.present c.self.inside.words.items c.self.invariant.a_flag_each in
    let less = rw (← c.self.view_is) at c.requires in
    omega (arith, size, less, c.self.invariant.a_flag_each)

pub returns : goal.returns
returns c = rw (c.truncate.ensures.items, c.truncate-2.ensures, ← c.self.view_is) (words_where-take c.args.len c.self.inside.present c.self.inside.words.items)

pub invariant_of-self : goal.invariant_of-self
invariant_of-self c =
    rw (c.truncate.ensures.items, c.truncate-2.ensures) (record {
      a_flag_each = length-take c.args.len c.self.inside.present ∙ ap (min c.args.len) c.self.invariant.a_flag_each ∙ sym (length-take c.args.len c.self.inside.words.items);
      marked = marked-take c.args.len c.self.inside.present c.self.inside.words.items c.self.invariant.marked;
    })
