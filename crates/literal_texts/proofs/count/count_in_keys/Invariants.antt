use Rattle.std.proofs.Common.{◌≡◌, ◌≤◌, ◌+◌, ◌-◌, ◌^◌, length, drop}
use Rattle.std.specs.Prelude.{flat_map, min}
use Rattle.pgql_tree.specs.Literals.{literals}
use Rattle.literal_texts.proofs.count.count_in_keys.Given as goal

abbrev pub invariant-loop-key : goal.invariant-loop-key
invariant-loop-key l = record {
  so_far : min (l.count + length (flat_map (λ key. literals key.expr) (drop l.key-index l.keys))) (2 ^ 32 - 1) ≡ min (length (flat_map (λ key. literals key.expr) l.keys)) (2 ^ 32 - 1);
  small : l.count ≤ 2 ^ 32 - 1;
}
