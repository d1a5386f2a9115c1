use Rattle.std.proofs.Common.{◌<◌, rules, length, w64}
use Rattle.std.specs.Int.RustNames.{FitsSigned}
use Rattle.std.proofs.lemmas.Int.{to_z-of_z}
use Rattle.partition.proofs.ReadFacts.{entry_read, link_fits}
use Rattle.partition.proofs.part.Part.entry.Goals as goal
use Rattle.partition.proofs.part.Part.entry.Goals.{After-link_at-link}

fits : (c : After-link_at-link) → c.link_at-link.result.edge < length c.self.inside.shared.value.edges
fits c =
    link_fits c.self.inside.machines c.self.inside.shared.value c.self.inside.own c.in_direction.result.now c.args.out c.in_direction.ensures c.self.invariant c.args.place c.args.no
    c.link_at-link.result c.link_at-link.ensures

pub key-requires : goal.key-requires
key-requires c = rw c.deref.ensures (fits (goal.at.key-requires c).After-link_at-link)

pub returns : goal.returns
returns c =
    let whole : FitsSigned w64 c.key.result = search rules in
    rw (← c.self.view_is, to_z-of_z w64 c.key.result whole)
    (entry_read c.self.inside.machines c.self.inside.shared.value c.self.inside.own c.in_direction.result.now c.args.out c.in_direction.ensures c.args.place c.args.no c.link_at-link.result c.key.result
    c.link_at-link.ensures (fits (goal.at.returns c).After-link_at-link) (rw c.deref.ensures at c.key.ensures))
