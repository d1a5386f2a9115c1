use Rattle.std.proofs.Common.{◌≡◌, drop}
use Rattle.std.specs.Prelude.{fold, flat_map}
use Rattle.typed_expr.specs.Uses.{uses, with_use}
use Rattle.typed_expr.proofs.captures.add_item_uses.Given as goal

abbrev pub invariant-loop-item : goal.invariant-loop-item
invariant-loop-item l = fold with_use l.found (flat_map (λ item. uses l.environment.schema.now l.environment.variables.now item.expr) (drop l.item-index l.items)) ≡ fold with_use l.initial.found (flat_map (λ item. uses l.environment.schema.now l.environment.variables.now item.expr) l.items)
