use Rattle.partition.proofs.OwnerFacts.{machines_fit}
use Rattle.partition.proofs.owner_file.read_owners.Goals as goal

pub returns-clause-fits : goal.returns-clause-fits
returns-clause-fits c = rw c.new.ensures (machines_fit c.args.bytes.now c.args.graph.now.vertices c.args.machines c.in_ok-list.list.items c.in_ok-list.ensures)
