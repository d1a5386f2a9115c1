use Rattle.std.proofs.Common.{◌∙◌}
use Rattle.csv.specs.Records.{fields_of}
use Rattle.graph_tables.proofs.RecordFacts.{field_is}
use Rattle.graph_tables.proofs.record_cells.find_cell.Goals as goal

pub returns : goal.returns
returns c = c.get.ensures.value ∙ field_is (fields_of c.args.row.now) c.args.place
