use Rattle.std.proofs.Common.{◌≡◌, ◌+◌, ◌<◌, ◌≤◌, [], length}
use Rattle.graph_tables.specs.Manifest.{most_tables, tables_of_lines}
use Rattle.graph_tables.proofs.manifest.take_lines.Given as goal

abbrev pub invariant-lines : goal.invariant-lines
invariant-lines l = record {
  rest : tables_of_lines l.number l.lines l.tables.items ≡ tables_of_lines 2 l.initial.lines [];
  few : length l.tables.items ≤ most_tables;
  short : length l.lines + l.number < 4294967296;
}

abbrev pub decreases-lines : goal.decreases-lines
decreases-lines l = length l.lines
