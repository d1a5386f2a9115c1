use Rattle.std.proofs.Common.{◌≡◌, ◌++◌, flat_map, length}
use Rattle.pgql_print.specs.Printing.{doubled}
use Rattle.pgql_print.proofs.write_expr.put_content.Given as goal

abbrev pub invariant-loop-plain : goal.invariant-loop-plain
invariant-loop-plain l = l.fn.out.items ++ flat_map doubled l.content ≡ l.out.items ++ flat_map doubled l.rest

abbrev pub decreases-loop-plain : goal.decreases-loop-plain
decreases-loop-plain l = length l.rest
