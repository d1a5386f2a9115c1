use Rattle.std.proofs.Common.{rules, ◌≡◌}
use Rattle.graph_gen.proofs.Lines.{link-added, link-drawn}
use Rattle.graph_gen.proofs.tables.links.Goals as goal

pub loop-place-preserved : goal.loop-place-preserved
loop-place-preserved c =
    let before = c.loop-place.draws.state in
    let between = c.next.new.self.state in
    record {
      drawn = λ seed at. link-drawn seed c.args.vertices c.loop-place.place before between c.next-in-loop-place.new.self.state
          (c.loop-place.invariant.drawn seed at) c.next.ensures.state c.next-in-loop-place.ensures.state;
      so_far = λ seed at. link-added seed c.args.vertices c.loop-place.place before c.next.result between c.next-in-loop-place.result
          c.loop-place.out.items c.put_link.new.out.items
          (c.loop-place.invariant.drawn seed at) (search rules) c.next.ensures.state (search rules) (c.loop-place.invariant.so_far seed at) (search rules);
    }
