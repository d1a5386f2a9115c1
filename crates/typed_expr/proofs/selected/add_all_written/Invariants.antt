use Rattle.std.proofs.Common.{◌≡◌, map, drop}
use Rattle.std.specs.Prelude.{fold}
use Rattle.value_text.specs.Texts.{with_text}
use Rattle.typed_expr.specs.Printed.{printed}
use Rattle.typed_expr.specs.Typed.{written}
use Rattle.typed_expr.proofs.selected.add_all_written.Given as goal

abbrev pub invariant-loop-place : goal.invariant-loop-place
invariant-loop-place l = fold with_text l.texts (map (λ item. printed item.expr) (drop l.place l.items)) ≡ written l.items
