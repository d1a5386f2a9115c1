use Rattle.partition.proofs.StandFacts.{parts_are_the_graph}
use Rattle.partition.proofs.laws.parts_are_the_graph.Goals as goal

pub returns : goal.returns
returns c = parts_are_the_graph
