use Rattle.std.proofs.Common.{◌<◌, length}
use Rattle.partition.proofs.ReadFacts.{link_fits, value_read, values_of_row}
use Rattle.partition.proofs.part.Part.entry_row.Goals as goal
use Rattle.partition.proofs.part.Part.entry_row.Goals.{After-link_at-link}

fits : (c : After-link_at-link) → c.link_at-link.result.edge < length c.self.inside.shared.value.edges
fits c =
    link_fits c.self.inside.machines c.self.inside.shared.value c.self.inside.own c.in_direction.result.now c.args.out c.in_direction.ensures c.self.invariant c.args.place c.args.no
    c.link_at-link.result c.link_at-link.ensures

pub row-requires : goal.row-requires
row-requires c = rw c.deref.ensures (fits (goal.at.row-requires c).After-link_at-link)

pub returns : goal.returns
returns c =
    rw (← c.self.view_is)
    (value_read c.self.inside.machines c.self.inside.shared.value c.self.inside.own c.in_direction.result.now c.args.out c.in_direction.ensures (λ values. values) c.args.place c.args.no
    c.link_at-link.result c.row.result.1 c.link_at-link.ensures (fits (goal.at.returns c).After-link_at-link) (values_of_row _ c.row.result (rw c.deref.ensures at c.row.ensures)))
