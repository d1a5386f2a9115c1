use Rattle.std.proofs.Common.{◌≡◌, ◌++◌, drop}
use Rattle.std.specs.Prelude.{flat_map}
use Rattle.typed_expr.specs.Typed as spec
use Rattle.typed_expr.proofs.faults.add_all_key_faults.Given as goal

abbrev pub invariant-loop-key : goal.invariant-loop-key
invariant-loop-key l =
    let told = spec.key_faults l.setting.environment.schema.now l.setting.environment.variables.now l.setting.distinct l.columns.items.now in
    l.faults ++ flat_map told (drop l.key-index l.keys) ≡ l.initial.faults ++ flat_map told l.keys
