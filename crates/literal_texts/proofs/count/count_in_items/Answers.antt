use Rattle.std.proofs.Common.{arith}
use Rattle.pgql_tree.specs.Literals.{literals}
use Rattle.literal_texts.proofs.Counts.{count-end}
use Rattle.literal_texts.proofs.count.count_in_items.Goals as goal

pub returns : goal.returns
returns c = count-end (λ item. literals item.expr) c.args.items.now c.loop-item.item-index c.loop-item.count _ (omega arith) c.loop-item.invariant.small c.loop-item.invariant.so_far
