use Rattle.std.proofs.Common.{◌∙◌, nat_eq}
use Rattle.element_store.proofs.PositionFacts.{entries_after}
use Rattle.element_store.proofs.columns.Columns.push.Goals as goal

pub returns-clause-ok : goal.returns-clause-ok
returns-clause-ok c =
    let fresh = rw (← c.self.view_is) at c.requires in
    rw (← c.self.view_is) (c.in_ok-insert.ensures.entries ∙ entries_after nat_eq c.args.property c.args.kind c.self.inside.kinds.entries fresh)
