use Rattle.std.proofs.Common.{◌≡◌, ◌+◌, [], length, cond}
use Rattle.csv.specs.declared.parser.State.TheVariants as st
use Rattle.csv_records.specs.Fields.{record_after, record_from}
use Rattle.csv_records.proofs.fields.take_fields.Given as goal

abbrev pub invariant-fields : goal.invariant-fields
invariant-fields l = record {
  goes : record_from st.StartField l.fn.row [] l.fn.text ≡ record_after l.more l.row l.rest;
}

abbrev pub decreases-fields : goal.decreases-fields
decreases-fields l = cond l.more (length l.rest + 1) 0
