use Rattle.std.proofs.Common.{◌≡◌, ◌++◌, codes}
use Rattle.std.specs.List.{flat_map, range_with_len}
use Rattle.seeded_draws.specs.Draws.{state_after}
use Rattle.graph_gen.specs.Generated.{node_line}
use Rattle.graph_gen.proofs.tables.nodes.Given as goal

-- so many vertices stand in the table, and their weights have been drawn
abbrev pub invariant-loop-place : goal.invariant-loop-place
invariant-loop-place l = record {
  drawn : l.draws.state ≡ state_after l.initial.draws.state l.place;
  so_far : l.out.items ≡ codes "id:int,w:int\n" ++ flat_map (node_line l.initial.draws.state) (range_with_len 0 l.place);
}
