use Rattle.std.proofs.Common.{◌≡◌, ◌≤◌, ◌+◌, length, drop}
use Rattle.std.specs.Prelude.{fold, flat_map}
use Rattle.pgql_tree.specs.Literals.{literals}
use Rattle.value_text.specs.Texts.{Kept, with_text}
use Rattle.literal_texts.proofs.literals.add_item_literals.Given as goal

abbrev pub invariant-loop-item : goal.invariant-loop-item
invariant-loop-item l = record {
  goes_on : fold with_text l.texts (flat_map (λ item. literals item.expr) (drop l.item-index l.items)) ≡ fold with_text l.initial.texts (flat_map (λ item. literals item.expr) l.items);
  kept : Kept l.initial.texts l.texts;
  room : length l.texts + length (flat_map (λ item. literals item.expr) (drop l.item-index l.items)) ≤ length l.initial.texts + length (flat_map (λ item. literals item.expr) l.items);
}
