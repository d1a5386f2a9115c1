use Rattle.graph_tables.proofs.GraphFacts.{readable}
use Rattle.graph_tables.proofs.graph.Graph.new.Goals as goal

pub invariant_of-result : goal.invariant_of-result
invariant_of-result c = readable c.args.loaded c.requires
