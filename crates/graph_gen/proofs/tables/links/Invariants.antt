use Rattle.std.proofs.Common.{◌≡◌, ◌+◌, ◌*◌, ◌++◌, ℕ, codes}
use Rattle.std.specs.List.{flat_map, range_with_len}
use Rattle.seeded_draws.specs.Draws.{state_after}
use Rattle.graph_gen.specs.Generated.{link_line}
use Rattle.graph_gen.proofs.tables.links.Given as goal

-- so many edges stand in the table, and both ends of each have been drawn
abbrev pub invariant-loop-place : goal.invariant-loop-place
invariant-loop-place l = record {
  drawn : (seed : ℕ) → l.initial.draws.state ≡ state_after seed l.vertices → l.draws.state ≡ state_after seed (l.vertices + 2 * l.place);
  so_far : (seed : ℕ) → l.initial.draws.state ≡ state_after seed l.vertices → l.out.items ≡ codes "id:int,source:int,target:int\n" ++ flat_map (link_line seed l.vertices) (range_with_len 0 l.place);
}
