use Rattle.std.proofs.Common.{◌≡◌, ◌+◌, ◌≤◌, drop, length, min}
use Rattle.csv.specs.Records.{fields_of}
use Rattle.graph_tables.specs.Headers.{columns_from, key_columns}
use Rattle.graph_tables.proofs.header.take_columns.Given as goal

abbrev pub invariant-loop-place : goal.invariant-loop-place
invariant-loop-place l = record {
  rest : columns_from l.of l.at (l.place + 1) (drop l.place (fields_of l.row)) (record { properties = l.properties; columns = l.columns })
      ≡ columns_from l.of l.at (key_columns l.of + 1) (drop (key_columns l.of) (fields_of l.row)) (record { properties = l.initial.properties; columns = l.initial.columns });
  room : length l.properties ≤ length l.initial.properties + min l.place (length (fields_of l.row));
}
