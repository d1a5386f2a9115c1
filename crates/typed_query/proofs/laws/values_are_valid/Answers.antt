use Rattle.typed_query.proofs.Validity.{value-valid}
use Rattle.typed_query.proofs.laws.values_are_valid.Goals as goal

pub returns : goal.returns
returns c = λ texts captured expr valid shown. value-valid texts captured shown expr valid
