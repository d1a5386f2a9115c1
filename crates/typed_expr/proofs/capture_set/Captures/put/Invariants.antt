use Rattle.std.proofs.Common.{◌≡◌, ◌++◌, map, drop}
use Rattle.typed_expr.proofs.capture_set.Captures.put.Given as goal

abbrev pub invariant-loop-used : goal.invariant-loop-used
invariant-loop-used l = l.list ++ map (λ u. u.capture) (drop l.used-index l.used-items) ≡ l.initial.list ++ map (λ u. u.capture) l.used-items
