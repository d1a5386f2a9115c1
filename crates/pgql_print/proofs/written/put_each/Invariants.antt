use Rattle.std.proofs.Common.{◌≡◌, ◌++◌, length, flat_map}
use Rattle.pgql_print.proofs.written.put_each.Given as goal

abbrev pub invariant-loop-rest : goal.invariant-loop-rest
invariant-loop-rest g l = l.fn.out.items ++ flat_map (λ x. l.mark ++ g.T.Written.text x) l.items ≡ l.out.items ++ flat_map (λ x. l.mark ++ g.T.Written.text x) l.rest

abbrev pub decreases-loop-rest : goal.decreases-loop-rest
decreases-loop-rest g l = length l.rest
