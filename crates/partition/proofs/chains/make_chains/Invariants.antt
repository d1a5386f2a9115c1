use Rattle.std.proofs.Common.{◌≡◌, ◌<◌, ◌≤◌, ℕ, drop, length, slice_index}
use Rattle.partition.specs.Kept.{IsChain, edges_from}
use Rattle.partition.proofs.chains.make_chains.Given as goal

abbrev pub invariant-edges : goal.invariant-edges
invariant-edges l = record {
  firsts : length l.chains.first.items ≡ length l.graph.vertices;
  nexts : length l.chains.next.items ≡ length l.graph.edges;
  left : l.left ≤ length l.graph.edges;
  each : (v : ℕ) → v < length l.graph.vertices → IsChain l.chains.next.items (slice_index l.chains.first.items v) (edges_from l.out l.left (drop l.left l.graph.edges) v);
}

abbrev pub decreases-edges : goal.decreases-edges
decreases-edges l = l.left
