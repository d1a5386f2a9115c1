use Rattle.std.proofs.Common.{◌≡◌, ◌∙◌, sym, true}
use Rattle.csv_records.specs.Fields.{is_over}
use Rattle.csv_records.proofs.FieldFacts.{whole}
use Rattle.csv_records.proofs.fields.take_quoted.Goals as goal

pub returns-then-is_over-clause-taken : goal.returns-then-is_over-clause-taken
returns-then-is_over-clause-taken c =
    let seen : is_over c.after_first-tail.result.now ≡ true = sym c.is_over.ensures ∙ c.if-is_over.true in
    let here = rw (c.after_first-tail.ensures.rest, c.from_place.ensures, c.run_end-end.ensures.value) at seen in
    rw (c.goes_on.ensures.value, c.after_first.ensures.rest, c.after_first-tail.ensures.rest, c.from_place.ensures, c.in_ok-push.ensures, c.run_end-end.ensures.value)
    (whole c.args.row.now c.args.text.now here)
