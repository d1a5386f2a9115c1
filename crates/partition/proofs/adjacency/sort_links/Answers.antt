use Rattle.std.proofs.Common.{rules}
use Rattle.partition.specs.Kept.{link_order}
use Rattle.partition.proofs.AdjacencyFacts.{link_order-total}
use Rattle.partition.proofs.adjacency.sort_links.Goals as goal

pub returns : goal.returns
returns c = c.in_ok-sort_by.ensures.sorted link_order link_order-total (λ pair answer after called. search rules)
