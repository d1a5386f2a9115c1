-- A row's cells, read from the place where they begin.
use Rattle.std.proofs.Common.{◌≡◌, ◌≢◌, ◌∙◌, sym, ap, arith, ◌<◌, ◌+◌, ◌*◌, ℕ, List, [], length, take, drop, slice_get, slice_index_or, Option, Some, None, unwrap_or}
use Rattle.std.proofs.lemmas.Option.{slice_get-get_or}
use Rattle.adfs_base.specs.declared.value.Kind.{Kind}
use Rattle.adfs_base.specs.declared.value.Kind.TheVariants as kinds
use Rattle.adfs_base.specs.declared.value.Value.TheVariants as value
use Rattle.element_store.specs.Columns.{Column, named, slot_of, value_of}
use Rattle.element_store.specs.Tables.{AreWordsOf, RowsAreWords, rows_of, values_of}
use Rattle.element_store.specs.Words.{value_from, word_from}
use Rattle.element_store.proofs.RowFacts.{cell_there, cell_within, length-rows_of, rows_get, rows_words_get}
use Rattle.element_store.specs.Slots.{column_at, held_of, kind_held, told_by}
use Rattle.element_store.specs.declared.near.Held.{Held}
use Rattle.element_store.specs.declared.near.Held.TheVariants as held
use Rattle.element_store.specs.declared.near.Slot.{Slot}
use Rattle.element_store.proofs.WordFacts.{no_word_of_null, no_word_of_other}
use Rattle.element_store.proofs.SlotFacts.{slot_null, slot_value, slot_within, slot_word}

module _ (columns : List Column) (n : ℕ) (cells : List (Option ℕ)) (row start : ℕ) (there : row < n) (begins : start ≡ row * length columns) where
  column_there : (property place : ℕ) (kind : Kind) → slot_of columns property ≡ Some (place, kind) → place < length columns
  column_there property place kind found = let within = slot_within 0 columns property place kind found in omega (arith, within.1)

  row_is : slice_index_or (rows_of columns n cells) row [] ≡ values_of columns (take (length columns) (drop (row * length columns) cells))
  row_is =
      let size = length-rows_of columns n cells in
      ap (λ o. unwrap_or o []) (sym (slice_get-get_or (rows_of columns n cells) row [] (omega (arith, size, there))) ∙ rows_get columns n cells row there)

  module _ (property place : ℕ) (kind : Kind) (found : slot_of columns property ≡ Some (place, kind)) where
    pub cell_inside : length cells ≡ n * length columns → start + place < length cells
    cell_inside size =
        let within = cell_within (length columns) row n place there (column_there property place kind found) in
        rw (size, begins) within

    module _ (cell : Option ℕ) (got : slice_get cells (start + place) ≡ Some cell) where
      cell_is : slice_get (take (length columns) (drop (row * length columns) cells)) place ≡ Some cell
      cell_is = cell_there (length columns) row place cells cell (column_there property place kind found) (rw begins at got)

      pub value_read : value_of (named columns (slice_index_or (rows_of columns n cells) row [])) property ≡ value_from kind cell
      value_read = rw row_is (slot_value 0 columns (take (length columns) (drop (row * length columns) cells)) property place place kind cell found (omega arith) cell_is)

      pub word_read : RowsAreWords columns n cells → word_from kind (value_of (named columns (slice_index_or (rows_of columns n cells) row [])) property) ≡ cell
      word_read words =
          rw value_read
          (slot_word 0 columns (take (length columns) (drop (row * length columns) cells)) property place place kind cell found (omega arith) cell_is (rows_words_get columns n cells row there words))

  pub null_read : (property : ℕ) → slot_of columns property ≡ None → value_of (named columns (slice_index_or (rows_of columns n cells) row [])) property ≡ value.Null
  null_read property absent = slot_null 0 columns (slice_index_or (rows_of columns n cells) row []) property absent

  -- a property whose column has another kind, or that has none, has no word of a kind
  module _ (property : ℕ) (slot : Slot) (k : Kind) (told : told_by slot ≡ slot_of columns property) (ne : slot.held ≢ held_of k) (size : length cells ≡ n * length columns) where
    of_another : (other : Kind) → slot_of columns property ≡ Some (slot.place, other) → held_of other ≢ held_of k
        → word_from k (value_of (named columns (slice_index_or (rows_of columns n cells) row [])) property) ≡ None
    of_another other found differ =
        let within = cell_inside property slot.place other found size in
        let got = slice_get-get_or cells (start + slot.place) None within in
        rw (value_read property slot.place other found (slice_index_or cells (start + slot.place) None) got)
        (no_word_of_other k other (slice_index_or cells (start + slot.place) None) differ)

    pub other_word_read : word_from k (value_of (named columns (slice_index_or (rows_of columns n cells) row [])) property) ≡ None
    other_word_read = by slot.held (sym told) ne
      where
        by : (h : Held) → slot_of columns property ≡ column_at slot.place (kind_held h) → h ≢ held_of k → word_from k (value_of (named columns (slice_index_or (rows_of columns n cells) row [])) property) ≡ None
        by held.Nothing found differ = rw (null_read property found) (no_word_of_null k)
        by held.Int found differ = of_another kinds.Int found differ
        by held.Text found differ = of_another kinds.Text found differ
        by held.Bool found differ = of_another kinds.Bool found differ
        by held.Date found differ = of_another kinds.Date found differ

  -- words of the row, each of which is there unless it is the one of missing words
  pub words_read : RowsAreWords columns n cells → (words : List ℕ) → length words ≡ length columns
      → ((i : ℕ) → i < length columns → slice_index_or words i 0 ≢ 18446744071562067968 → slice_get cells (start + i) ≡ Some (Some (slice_index_or words i 0)))
      → (first label : ℕ) → AreWordsOf (record { first = first; label = label; columns = columns; rows = rows_of columns n cells }) row words
  words_read are words size is first label = record {
    a_word_each = size;
    words_are = λ property place kind found other.
        word_read property place kind found (Some (slice_index_or words place 0)) (is place (column_there property place kind found) other) are;
  }
