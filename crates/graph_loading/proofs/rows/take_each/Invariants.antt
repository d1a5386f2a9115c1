use Rattle.std.proofs.Common.{◌≡◌, ◌+◌, ◌<◌, length}
use Rattle.graph_tables.specs.Loading.{IsSound, KeepsTables, filled_of, graph_of}
use Rattle.graph_loading.specs.Rows.{rows_from}
use Rattle.graph_loading.proofs.rows.take_each.Given as goal

abbrev pub invariant-records : goal.invariant-records
invariant-records l = record {
  rest : rows_from l.of l.file l.number (filled_of l.of l.initial.loading).label (filled_of l.of l.initial.loading).columns l.records (graph_of l.loading)
      ≡ rows_from l.of l.file 2 (filled_of l.of l.initial.loading).label (filled_of l.of l.initial.loading).columns l.initial.records (graph_of l.initial.loading);
  sound : IsSound l.loading;
  keeps : KeepsTables l.initial.loading l.loading;
  short : length l.records + l.number < 4294967296;
}

abbrev pub decreases-records : goal.decreases-records
decreases-records l = length l.records
