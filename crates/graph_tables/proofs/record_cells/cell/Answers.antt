use Rattle.std.proofs.Common.{sym}
use Rattle.csv.specs.Records.{fields_of}
use Rattle.graph_tables.proofs.RecordFacts.{absent_cell}
use Rattle.graph_tables.proofs.record_cells.cell.Goals as goal

pub returns-in-None : goal.returns-in-None
returns-in-None c = sym (absent_cell (fields_of c.args.row.now) c.args.place (sym c.in-None.ensures))
