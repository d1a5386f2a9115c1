use Rattle.std.proofs.Common.{◌<◌, ◌^◌, arith, refl, length}
use Rattle.std.proofs.lemmas.List.{get_or_read}
use Rattle.partition.specs.Kept.{edges_at, links_at}
use Rattle.partition.proofs.ChainFacts.{each_known, walk_ends, walk_goes, walk_on}
use Rattle.partition.proofs.lists.fill_list.Goals as goal

pub edges-init : goal.edges-init
edges-init c =
    let first = c.args.chains.now.first.items in
    let read = get_or_read first c.args.vertex _ (omega (arith, c.requires.vertex, c.requires.chains.a_first_each)) c.index-number.ensures 0 in (
      edges_at c.args.out c.args.graph.now.edges c.args.vertex,
      record {
        chain = rw read (c.requires.chains.each c.args.vertex c.requires.vertex);
        known = each_known c.args.out c.args.vertex c.args.graph.now.edges c.args.graph.now.edges 0 refl;
        links = rw c.clear.ensures.items refl;
      },
    )

pub link-requires-clause-number : goal.link-requires-clause-number
link-requires-clause-number c =
    (walk_goes c.args.chains.now.next.items c.args.owners.now c.args.out c.args.graph.now.edges (links_at c.args.owners.now c.args.out c.args.graph.now.edges c.args.vertex) c.edges.number c.edges.list.items
    c.edges.invariant.0 c.edges-test.true c.edges.invariant.1).known

pub index-number-requires-in-edges : goal.index-number-requires-in-edges
index-number-requires-in-edges c =
    let goes = walk_goes c.args.chains.now.next.items c.args.owners.now c.args.out c.args.graph.now.edges (links_at c.args.owners.now c.args.out c.args.graph.now.edges c.args.vertex) c.edges.number c.edges.list.items
    c.edges.invariant.0 c.edges-test.true c.edges.invariant.1 in
    omega (arith, goes.within, c.args.chains.now.next.ok.0)

pub edges-preserved : goal.edges-preserved
edges-preserved c =
    let next = c.args.chains.now.next.items in
    let goes = walk_goes next c.args.owners.now c.args.out c.args.graph.now.edges (links_at c.args.owners.now c.args.out c.args.graph.now.edges c.args.vertex) c.edges.number c.edges.list.items
    c.edges.invariant.0 c.edges-test.true c.edges.invariant.1 in
    let read = get_or_read next c.edges.number _ goes.within c.index-number-in-edges.ensures 0 in
    rw (read, c.in_ok-push.ensures.items, c.link.ensures)
    (walk_on next c.args.owners.now c.args.out c.args.graph.now.edges (links_at c.args.owners.now c.args.out c.args.graph.now.edges c.args.vertex) c.edges.number c.edges.list.items
    c.edges.invariant.0 c.edges-test.true c.edges.invariant.1)

pub returns : goal.returns
returns c =
    let few : length c.args.graph.now.edges < 2 ^ 32 = omega (arith, c.edges-edges.ensures) in
    walk_ends c.args.chains.now.next.items c.args.owners.now c.args.out c.args.graph.now.edges (links_at c.args.owners.now c.args.out c.args.graph.now.edges c.args.vertex) c.edges.number c.edges.list.items
    c.edges.invariant.0 c.edges-test.false few c.edges.invariant.1
