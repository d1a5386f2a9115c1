use Rattle.std.proofs.Common.{◌≡◌, ◌<◌, ap, arith, refl, length, take, slice_index}
use Rattle.std.proofs.lemmas.List.{take_all}
use Rattle.partition.proofs.ListFacts.{holds_more, length-links_at}
use Rattle.partition.proofs.lists.link_all.Goals as goal

pub add_list-requires-clause-few : goal.add_list-requires-clause-few
add_list-requires-clause-few c =
    let few = length-links_at c.args.owners.now c.args.out c.args.graph.now.edges (slice_index c.args.numbers.now c.loop-vertex.vertex-index) in
    omega (arith, few, ap length c.in_ok-fill_list.ensures, c.edges-edges.ensures)

pub loop-vertex-preserved : goal.loop-vertex-preserved
loop-vertex-preserved c =
    let less : c.loop-vertex.vertex-index < length c.args.numbers.now = omega (arith, c.loop-vertex-test.true) in
    let list = c.in_ok-fill_list.ensures in
    holds_more c.args.owners.now c.args.out c.args.graph.now.edges c.args.numbers.now c.loop-vertex.vertex-index _ c.loop-vertex.lists c.add_list.new.lists less refl c.loop-vertex.invariant
    (rw list at c.in_ok-add_list.ensures.added) c.in_ok-add_list.ensures.spans (rw list at c.in_ok-add_list.ensures.links)

pub returns : goal.returns
returns c =
    let all : take c.loop-vertex.vertex-index c.args.numbers.now ≡ c.args.numbers.now = take_all c.loop-vertex.vertex-index c.args.numbers.now (omega (arith, c.loop-vertex-test.false)) in
    rw all at c.loop-vertex.invariant
