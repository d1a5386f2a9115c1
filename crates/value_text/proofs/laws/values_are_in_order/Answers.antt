use Rattle.value_text.proofs.Orders.{value_order-total}
use Rattle.value_text.proofs.laws.values_are_in_order.Goals as goal

pub returns : goal.returns
returns c = value_order-total
