use Rattle.std.proofs.Common.{◌≡◌, ◌≤◌, ◌+◌, ◌-◌, ◌^◌, length, drop}
use Rattle.std.specs.Prelude.{flat_map, min}
use Rattle.pgql_tree.specs.Literals.{literals}
use Rattle.literal_texts.proofs.count.count_in_items.Given as goal

abbrev pub invariant-loop-item : goal.invariant-loop-item
invariant-loop-item l = record {
  so_far : min (l.count + length (flat_map (λ item. literals item.expr) (drop l.item-index l.items))) (2 ^ 32 - 1) ≡ min (length (flat_map (λ item. literals item.expr) l.items)) (2 ^ 32 - 1);
  small : l.count ≤ 2 ^ 32 - 1;
}
