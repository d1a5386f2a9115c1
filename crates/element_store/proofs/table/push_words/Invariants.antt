use Rattle.std.proofs.Common.{◌≤◌, length}
use Rattle.element_store.proofs.RowFacts.{IsPartOfRow}
use Rattle.element_store.proofs.table.push_words.Given as goal

abbrev pub invariant-loop-i : goal.invariant-loop-i
invariant-loop-i l = record {
  part : IsPartOfRow l.columns l.values l.initial.cells l.cells l.i;
  within : l.i ≤ length l.values;
}
