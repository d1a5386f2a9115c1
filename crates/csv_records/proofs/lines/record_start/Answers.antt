use Rattle.std.proofs.Common.{arith}
use Rattle.csv_records.specs.Fields.{begins_record}
use Rattle.csv_records.proofs.PlaceFacts.{place_none, place_some, within}
use Rattle.csv_records.proofs.lines.record_start.Goals as goal

pub returns-in-Some-clause-value : goal.returns-in-Some-clause-value
returns-in-Some-clause-value c = place_some begins_record c.args.text.now c.in-Some.n c.in-Some.ensures

pub returns-in-Some-clause-within : goal.returns-in-Some-clause-within
returns-in-Some-clause-within c = omega (arith, within begins_record c.args.text.now, place_some begins_record c.args.text.now c.in-Some.n c.in-Some.ensures)

pub returns-in-None-clause-value : goal.returns-in-None-clause-value
returns-in-None-clause-value c = place_none begins_record c.args.text.now c.in-None.ensures
