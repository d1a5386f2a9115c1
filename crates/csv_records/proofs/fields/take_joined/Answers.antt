use Rattle.std.proofs.Common.{◌∙◌}
use Rattle.csv_records.proofs.FieldFacts.{plain}
use Rattle.csv_records.proofs.fields.take_joined.Goals as goal

pub returns-clause-taken : goal.returns-clause-taken
returns-clause-taken c =
    let quoted = rw c.clear.ensures.items at c.in_ok-rest.ensures.taken c.args.row.now in
    rw (
      c.goes_on.ensures.value,
      c.after_first.ensures.rest,
      c.from_place-tail.ensures,
      c.in_ok-push_copy.ensures,
      c.deref.ensures.value,
      c.in_ok-extend_from_slice.ensures.items,
      c.field_end-end.ensures.value,
    )
    (quoted ∙ plain c.args.row.now c.unquote.new.field.items c.in_ok-rest.rest.now)
