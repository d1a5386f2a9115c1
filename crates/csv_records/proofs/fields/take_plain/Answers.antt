use Rattle.std.proofs.Common.{[]}
use Rattle.csv_records.proofs.FieldFacts.{plain}
use Rattle.csv_records.proofs.fields.take_plain.Goals as goal

pub returns-clause-taken : goal.returns-clause-taken
returns-clause-taken c =
    rw (c.goes_on.ensures.value, c.after_first.ensures.rest, c.from_place-tail.ensures, c.in_ok-push.ensures, c.field_end-end.ensures.value)
    (plain c.args.row.now [] c.args.text.now)
