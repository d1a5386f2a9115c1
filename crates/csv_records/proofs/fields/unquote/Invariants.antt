use Rattle.std.proofs.Common.{◌≡◌, ◌≤◌, ◌+◌, List, ℕ, length, cond}
use Rattle.csv.specs.declared.parser.State.TheVariants as st
use Rattle.csv_records.specs.Fields.{record_from, record_within}
use Rattle.csv_records.proofs.fields.unquote.Given as goal

abbrev pub invariant-runs : goal.invariant-runs
invariant-runs l = record {
  goes : (before : List (List ℕ)) → record_from st.InQuoted before l.fn.field.items l.fn.text ≡ record_within l.inside before l.field.items l.rest;
  within : length l.rest ≤ length l.fn.text;
}

abbrev pub decreases-runs : goal.decreases-runs
decreases-runs l = cond l.inside (length l.rest + 1) 0
