use Rattle.std.proofs.Common.{rules, ◌≡◌}
use Rattle.seeded_draws.proofs.Nth.{moved-on}
use Rattle.graph_gen.proofs.Lines.{node-added}
use Rattle.graph_gen.proofs.tables.nodes.Goals as goal

pub loop-place-preserved : goal.loop-place-preserved
loop-place-preserved c =
    let seed = c.args.draws.now.state in
    let place = c.loop-place.place in
    record {
      drawn = moved-on seed place c.loop-place.draws.state c.next.new.self.state c.loop-place.invariant.drawn c.next.ensures.state;
      so_far = node-added seed place c.loop-place.draws.state c.next.result c.loop-place.out.items c.put_node.new.out.items
          c.loop-place.invariant.drawn (search rules) c.loop-place.invariant.so_far (search rules);
    }
