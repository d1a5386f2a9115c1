use Rattle.std.proofs.Common.{refl}
use Rattle.pgql_meaning.proofs.laws.limits_come_last.Goals as goal

pub returns : goal.returns
returns c texts graph query = refl
