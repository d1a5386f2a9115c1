use Rattle.std.proofs.Common.{arith, length, refl}
use Rattle.element_store.proofs.RowFacts.{length-rows_of, rows_after, total_after, words_after}
use Rattle.element_store.proofs.table.Table.push.Goals as goal

pub overflow_add-self : goal.overflow_add-self
overflow_add-self c =
    let size = length-rows_of c.self.inside.columns c.self.inside.rows c.self.inside.cells in
    let few = rw (← c.self.view_is) at c.requires.few in
    omega (arith, size, few)

pub returns-clause-ok : goal.returns-clause-ok
returns-clause-ok c =
    rw (← c.self.view_is, rows_after c.self.inside.columns c.self.inside.rows c.args.values.now c.self.inside.cells c.push_words.new.cells c.self.invariant.a_cell_each c.in_ok-push_words.ensures.ok) refl

pub invariant_of-self-2 : goal.invariant_of-self-2
invariant_of-self-2 c = record {
  a_cell_each = total_after c.self.inside.rows (length c.self.inside.columns) (length c.self.inside.cells) (length c.push_words.new.cells) c.self.invariant.a_cell_each c.in_ok-push_words.ensures.ok.width;
  words = words_after c.self.inside.columns c.self.inside.rows c.args.values.now c.self.inside.cells c.push_words.new.cells c.self.invariant.a_cell_each c.in_ok-push_words.ensures.ok c.self.invariant.words;
  near = c.self.invariant.near;
}
