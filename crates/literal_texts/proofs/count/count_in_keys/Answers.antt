use Rattle.std.proofs.Common.{arith}
use Rattle.pgql_tree.specs.Literals.{literals}
use Rattle.literal_texts.proofs.Counts.{count-end}
use Rattle.literal_texts.proofs.count.count_in_keys.Goals as goal

pub returns : goal.returns
returns c = count-end (λ key. literals key.expr) c.args.keys.now c.loop-key.key-index c.loop-key.count _ (omega arith) c.loop-key.invariant.small c.loop-key.invariant.so_far
