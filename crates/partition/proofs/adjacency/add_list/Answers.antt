use Rattle.std.proofs.Common.{◌≡◌, ap, arith, length}
use Rattle.sorted_lists.specs.Sorted.{before_by}
use Rattle.partition.specs.Kept.{link_order, links_in_order}
use Rattle.partition.proofs.AdjacencyFacts.{length-in_order, lists_after, spans_after}
use Rattle.partition.proofs.adjacency.add_list.Goals as goal
use Rattle.partition.proofs.adjacency.add_list.Goals.{After-len-degree}

-- as many links as before
sized : (c : After-len-degree) → c.len-degree.result ≡ length (links_in_order c.args.list.now.items)
sized c = let same = ap length c.in_ok-sort_links.ensures in omega (arith, same, c.len-degree.ensures, c.sort_links.new.links.ok.0)

pub overflow_cast-degree : goal.overflow_cast-degree
overflow_cast-degree c = omega (arith, sized c, length-in_order (before_by link_order) c.args.list.now.items, c.requires.few)

pub returns-clause-added : goal.returns-clause-added
returns-clause-added c =
    let start : c.len-start.result ≡ length c.args.lists.now.links.items = omega (arith, c.len-start.ensures, c.args.lists.now.links.ok.0) in
    rw (c.in_ok-extend_from_slice.ensures.items, c.in_ok-push.ensures.items, c.deref.ensures.value, c.in_ok-sort_links.ensures, start)
    (lists_after c.args.lists.now.links.items (links_in_order c.args.list.now.items) c.args.lists.now.spans.items c.len-degree.result c.requires.spans (sized (goal.at.returns-clause-added c).After-len-degree))

pub returns-clause-spans : goal.returns-clause-spans
returns-clause-spans c =
    let start : c.len-start.result ≡ length c.args.lists.now.links.items = omega (arith, c.len-start.ensures, c.args.lists.now.links.ok.0) in
    rw (c.in_ok-extend_from_slice.ensures.items, c.in_ok-push.ensures.items, c.deref.ensures.value, c.in_ok-sort_links.ensures, start)
    (spans_after c.args.lists.now.links.items (links_in_order c.args.list.now.items) c.args.lists.now.spans.items c.len-degree.result c.requires.spans (sized (goal.at.returns-clause-spans c).After-len-degree))
