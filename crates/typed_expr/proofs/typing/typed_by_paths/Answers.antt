use Rattle.std.proofs.Common.{[]}
use Rattle.typed_expr.proofs.Outcomes.{typed-pathless}
use Rattle.typed_expr.proofs.typing.typed_by_paths.Goals as goal

pub returns : goal.returns
returns c =
    typed-pathless c.args.schema.now c.args.texts.now c.typed_in.new.texts c.args.ast.now [] c.in_ok-scope.scope c.typed_in.result (rw c.as_slice.ensures at c.in_ok-scope.ensures) c.typed_in.ensures
