use Rattle.match_context.proofs.Bags.{sums_in_any_order}
use Rattle.match_context.proofs.laws.sums_in_any_order.Goals as goal

pub returns : goal.returns
returns c = sums_in_any_order
