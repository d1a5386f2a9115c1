use Rattle.std.proofs.Common.{◌≡◌, ◌++◌, map, drop}
use Rattle.typed_expr.specs.Typed.{as_declared}
use Rattle.typed_expr.proofs.items.add_names.Given as goal

abbrev pub invariant-loop-item : goal.invariant-loop-item
invariant-loop-item l = l.names ++ map as_declared (drop l.item-index l.items) ≡ l.initial.names ++ map as_declared l.items
