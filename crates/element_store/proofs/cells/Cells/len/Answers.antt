use Rattle.std.proofs.Common.{rules}
use Rattle.element_store.proofs.CellFacts.{length-words_where}
use Rattle.element_store.proofs.cells.Cells.len.Goals as goal

pub returns-clause-length : goal.returns-clause-length
returns-clause-length c =
    let size = length-words_where c.self.inside.present c.self.inside.words.items c.self.invariant.a_flag_each in
    rw (← c.self.view_is, size) (search rules)

pub returns-clause-fits : goal.returns-clause-fits
returns-clause-fits c =
    let size = length-words_where c.self.inside.present c.self.inside.words.items c.self.invariant.a_flag_each in
    rw (← c.self.view_is, size) (search rules)
