use Rattle.typed_expr.specs.Uses.{uses, with_use}
use Rattle.typed_expr.proofs.Wholes.{fold-of_all, on_ok}
use Rattle.typed_expr.proofs.captures.add_captures.Goals as goal

pub returns : goal.returns
returns c =
    on_ok c.add_key_uses.result c.add_key_uses.ensures (λ third.
    fold-of_all with_use (uses c.args.environment.schema.now c.args.environment.variables.now) c.args.ast.now c.args.found.now c.add_item_uses.new.found c.add_condition_uses.new.found c.add_key_uses.new.found
    (rw c.as_slice.ensures at c.in_ok-add_item_uses.ensures)
    c.in_ok-add_condition_uses.ensures
    (rw c.as_slice-2.ensures at third))
