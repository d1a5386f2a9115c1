use Rattle.partition.proofs.ReadFacts.{links_read}
use Rattle.partition.proofs.part.Part.links.Goals as goal

pub returns-clause-links : goal.returns-clause-links
returns-clause-links c =
    rw (← c.self.view_is)
    (links_read c.self.inside.machines c.self.inside.shared.value c.self.inside.own c.in_direction.result.now c.args.out c.in_direction.ensures c.args.place c.links_at.result.now c.links_at.ensures.links)
