use Rattle.csv_records.proofs.TableFacts.{none_wide}
use Rattle.csv_records.proofs.records.Records.new.Goals as goal

pub returns-clause-narrow : goal.returns-clause-narrow
returns-clause-narrow c = rw c.without_mark.ensures (none_wide c.args.bytes.now)
