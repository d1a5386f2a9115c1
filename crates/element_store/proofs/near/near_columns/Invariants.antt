use Rattle.std.proofs.Common.{◌≡◌, length}
use Rattle.element_store.specs.Slots.{AreNear}
use Rattle.element_store.proofs.near.near_columns.Given as goal

abbrev pub invariant-loop-property : goal.invariant-loop-property
invariant-loop-property l = record {
  sized : length l.near.items ≡ l.property;
  near : AreNear l.near.items l.columns;
}
