use Rattle.std.proofs.Common.{◌≡◌, ◌↔◌, length, map}
use Rattle.pgql_tree.proofs.same.same_all.Given as goal

abbrev pub invariant-items : goal.invariant-items
invariant-items g l = (map g.T.Same.bare l.a ≡ map g.T.Same.bare l.b) ↔ (map g.T.Same.bare l.rest ≡ map g.T.Same.bare l.others)

abbrev pub decreases-items : goal.decreases-items
decreases-items g l = length l.rest
