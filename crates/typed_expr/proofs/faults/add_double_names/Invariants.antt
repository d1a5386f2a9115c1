use Rattle.std.proofs.Common.{◌≡◌, ◌++◌, [], map, take, drop}
use Rattle.typed_expr.specs.Typed as spec
use Rattle.typed_expr.proofs.faults.add_double_names.Given as goal

abbrev pub invariant-loop-item : goal.invariant-loop-item
invariant-loop-item l = record {
  named : l.names ≡ map spec.as_declared (take l.item-index l.items);
  told : l.faults ++ spec.double_names (take l.item-index l.items) (drop l.item-index l.items) ≡ l.initial.faults ++ spec.double_names [] l.items;
}
