use Rattle.std.proofs.Common.{◌≡◌, ◌++◌, drop}
use Rattle.std.specs.Prelude.{flat_map}
use Rattle.typed_expr.specs.Kinds.{checked}
use Rattle.typed_expr.specs.Typed as spec
use Rattle.typed_expr.proofs.faults.add_item_faults.Given as goal

abbrev pub invariant-loop-item : goal.invariant-loop-item
invariant-loop-item l =
    l.faults ++ flat_map (λ item. spec.faults_in (checked l.environment.schema.now l.environment.variables.now item.expr).kind) (drop l.item-index l.items)
    ≡ l.initial.faults ++ flat_map (λ item. spec.faults_in (checked l.environment.schema.now l.environment.variables.now item.expr).kind) l.items
