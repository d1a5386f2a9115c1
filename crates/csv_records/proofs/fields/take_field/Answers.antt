use Rattle.std.proofs.Common.{◌∙◌, sym, []}
use Rattle.csv_records.proofs.FieldFacts.{begins_plain, begins_quoted}
use Rattle.csv_records.proofs.fields.take_field.Goals as goal

pub returns-then-is_quoted-clause-taken : goal.returns-then-is_quoted-clause-taken
returns-then-is_quoted-clause-taken c =
    let begun = begins_quoted c.args.row.now c.args.text.now (sym c.is_quoted.ensures ∙ c.if-is_quoted.true) in
    rw begun (rw c.after_first.ensures.rest at c.take_quoted.ensures.taken)

pub returns-else-is_quoted-clause-taken : goal.returns-else-is_quoted-clause-taken
returns-else-is_quoted-clause-taken c =
    let begun = begins_plain c.args.row.now [] c.args.text.now (sym c.is_quoted.ensures ∙ c.if-is_quoted.false) in
    rw begun c.take_plain.ensures.taken
