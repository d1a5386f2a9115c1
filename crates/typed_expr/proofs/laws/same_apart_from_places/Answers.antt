use Rattle.typed_expr.proofs.SameLaw.{is_told}
use Rattle.typed_expr.proofs.laws.same_apart_from_places.Goals as goal

pub returns : goal.returns
returns c = is_told
