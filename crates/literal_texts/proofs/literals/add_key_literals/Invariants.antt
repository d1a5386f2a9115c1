use Rattle.std.proofs.Common.{◌≡◌, ◌≤◌, ◌+◌, length, drop}
use Rattle.std.specs.Prelude.{fold, flat_map}
use Rattle.pgql_tree.specs.Literals.{literals}
use Rattle.value_text.specs.Texts.{Kept, with_text}
use Rattle.literal_texts.proofs.literals.add_key_literals.Given as goal

abbrev pub invariant-loop-key : goal.invariant-loop-key
invariant-loop-key l = record {
  goes_on : fold with_text l.texts (flat_map (λ key. literals key.expr) (drop l.key-index l.keys)) ≡ fold with_text l.initial.texts (flat_map (λ key. literals key.expr) l.keys);
  kept : Kept l.initial.texts l.texts;
  room : length l.texts + length (flat_map (λ key. literals key.expr) (drop l.key-index l.keys)) ≤ length l.initial.texts + length (flat_map (λ key. literals key.expr) l.keys);
}
