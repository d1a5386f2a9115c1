use Rattle.std.proofs.Common.{◌≡◌, ◌<◌, ◌-◌, ◌+◌, ◌∙◌, arith, length, slice_index}
use Rattle.std.proofs.lemmas.List.{length-set}
use Rattle.partition.proofs.ChainFacts.{one_more}
use Rattle.partition.proofs.chains.make_chains.Goals as goal

pub edges-preserved : goal.edges-preserved
edges-preserved c =
    let edges = c.args.graph.now.edges in
    let first = c.edges.chains.first.items in
    let next = c.edges.chains.next.items in
    let near = c.near_end-vertex.result in
    let less : c.edges.left - 1 < length edges = omega (arith, c.edges-test.true, c.edges.invariant.left) in
    let back : c.edges.left - 1 + 1 ≡ c.edges.left = omega (arith, c.edges-test.true) in
    record {
      firsts = rw c.put_first.ensures.first (length-set first near (c.edges.left - 1) ∙ c.edges.invariant.firsts);
      nexts = rw c.put_first.ensures.next (length-set next (c.edges.left - 1) (slice_index first near) ∙ c.edges.invariant.nexts);
      left = omega (arith, less);
      each = rw (c.put_first.ensures.first, c.put_first.ensures.next)
          (one_more c.args.out edges (c.edges.left - 1) (length c.args.graph.now.vertices) near first next less c.near_end-vertex.ensures.end c.edges.invariant.firsts
          c.near_end-vertex.ensures.within c.edges.invariant.nexts (rw back c.edges.invariant.each));
    }
