use Rattle.std.proofs.Common.{◌≡◌, ◌++◌, drop}
use Rattle.typed_expr.specs.Meaning.{meant}
use Rattle.typed_expr.specs.Typed as spec
use Rattle.typed_expr.proofs.build.add_keys.Given as goal

abbrev pub invariant-loop-key : goal.invariant-loop-key
invariant-loop-key l =
    let means = meant l.scene.environment.schema.now l.scene.environment.variables.now l.scene.captures.now l.scene.texts.now in
    l.found ++ spec.keys_of means l.columns.items.now (drop l.key-index l.keys) ≡ l.initial.found ++ spec.keys_of means l.columns.items.now l.keys
