use Rattle.std.proofs.Common.{◌≡◌, ◌++◌, drop, length}
use Rattle.typed_expr.specs.Meaning.{meant}
use Rattle.typed_expr.specs.Typed as spec
use Rattle.typed_expr.proofs.build.add_columns.Given as goal

-- the items that are left stand as they did, and their columns are what is to come
abbrev pub invariant-loop-place : goal.invariant-loop-place
invariant-loop-place l =
    let means = meant l.scene.environment.schema.now l.scene.environment.variables.now l.scene.captures.now l.scene.texts.now in
    record {
      as_many : length l.items ≡ length l.initial.items;
      rest : drop l.place l.items ≡ drop l.place l.initial.items;
      to_come : l.select ++ spec.select_of means (drop l.place l.initial.items) ≡ l.initial.select ++ spec.select_of means l.initial.items;
    }
