use Rattle.std.proofs.Common.{◌≡◌, ◌++◌, drop}
use Rattle.typed_expr.proofs.build.add_edges.Given as goal

abbrev pub invariant-loop-edge : goal.invariant-loop-edge
invariant-loop-edge l = l.found ++ drop l.edge-index l.edges ≡ l.initial.found ++ l.edges
