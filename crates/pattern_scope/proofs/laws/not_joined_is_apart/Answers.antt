use Rattle.pattern_scope.proofs.Joins.{apart_from, not_joined-apart}
use Rattle.pattern_scope.proofs.laws.not_joined_is_apart.Goals as goal

pub returns : goal.returns
returns c = λ links number. (apart_from links number, not_joined-apart links number)
