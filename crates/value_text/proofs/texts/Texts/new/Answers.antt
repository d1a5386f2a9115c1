use Rattle.std.proofs.Common.{arith}
use Rattle.value_text.proofs.Places.{IsDistinct-nil}
use Rattle.value_text.proofs.texts.Texts.new.Goals as goal

pub invariant_of-result : goal.invariant_of-result
invariant_of-result c = rw c.new.ensures.empty (IsDistinct-nil, omega arith)
