-- What a row keeps.
use Rattle.std.specs.Prelude.{ℕ, List}
use Rattle.element_store.specs.Slots.{AreNear}
use Rattle.element_store.specs.Tables.{AreWordsOf, IsRow, Rows}
use Rattle.element_store.specs.declared.near.Slot.{Slot}

-- A row is there, with its table's columns where they are sought, and its words.
pub record IsRowOf (table : Rows) (row start : ℕ) (near : List Slot) (words : List ℕ) : Type 0 where
  pub at : IsRow table row start
  pub near_are : AreNear near table.columns
  pub words_are : AreWordsOf table row words
