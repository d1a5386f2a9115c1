use Rattle.std.proofs.Common.{sym}
use Rattle.pattern_scope.proofs.joined.tie.Goals as goal

pub returns-else-a-b-clause-respected : goal.returns-else-a-b-clause-respected
returns-else-a-b-clause-respected c = λ set respected same. c.hang-else-a-b.ensures.respected set respected (sym same)
