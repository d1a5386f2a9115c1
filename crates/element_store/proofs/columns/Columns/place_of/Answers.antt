use Rattle.element_store.proofs.columns.Columns.place_of.Goals as goal

pub returns : goal.returns
returns c = rw (← c.self.view_is) c.get_index_of.ensures.index
