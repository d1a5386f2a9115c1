use Rattle.std.proofs.Common.{◌≡◌, ◌+◌, ◌≤◌, [], drop, length, take}
use Rattle.std.specs.List.{AllByRecursion}
use Rattle.element_store.specs.Columns.{HaveKinds}
use Rattle.value_text.specs.Texts.{Kept}
use Rattle.value_text.specs.Valid.{IsValid}
use Rattle.graph_tables.specs.Headers.{key_columns}
use Rattle.graph_loading.specs.Rows.{values_from}
use Rattle.graph_loading.proofs.rows.read_values.Given as goal

abbrev pub invariant-loop-i : goal.invariant-loop-i
invariant-loop-i l = record {
  rest : values_from l.at (key_columns l.fn.of + 1 + l.i) (drop l.i l.columns) (drop (key_columns l.fn.of + l.i) l.row) (l.values.items, l.texts)
      ≡ values_from l.at (key_columns l.fn.of + 1) l.columns (drop (key_columns l.fn.of) l.row) ([], l.initial.texts);
  count : length l.values.items ≡ l.i;
  kinds : HaveKinds (take l.i l.columns) l.values.items;
  valid : AllByRecursion (IsValid l.texts) l.values.items;
  kept : Kept l.initial.texts l.texts;
  room : length l.texts ≤ length l.initial.texts + l.i;
}
