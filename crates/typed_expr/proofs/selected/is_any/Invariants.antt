use Rattle.std.proofs.Common.{◌≡◌, drop}
use Rattle.std.specs.List.{list_any}
use Rattle.typed_expr.specs.Same.{same}
use Rattle.typed_expr.proofs.selected.is_any.Given as goal

abbrev pub invariant-loop-item : goal.invariant-loop-item
invariant-loop-item l = list_any (λ item. same l.expr item.expr) (drop l.item-index l.items) ≡ list_any (λ item. same l.expr item.expr) l.items
