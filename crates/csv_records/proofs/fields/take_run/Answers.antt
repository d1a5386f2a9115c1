use Rattle.std.proofs.Common.{◌≡◌, ◌∙◌, sym, true, false}
use Rattle.csv_records.specs.Fields.{is_quoted}
use Rattle.csv_records.proofs.FieldFacts.{closed, doubled}
use Rattle.csv_records.proofs.fields.take_run.Goals as goal

pub returns-then-is_quoted-clause-taken : goal.returns-then-is_quoted-clause-taken
returns-then-is_quoted-clause-taken c = λ before.
    let seen : is_quoted c.after_first-rest.result.now ≡ true = sym c.is_quoted.ensures ∙ c.if-is_quoted.true in
    let here = rw (c.after_first-rest.ensures.rest, c.from_place-tail.ensures, c.run_end-end.ensures.value) at seen in
    rw (c.in_ok-push.ensures.items, c.in_ok-extend_from_slice.ensures.items, c.after_first.ensures.rest, c.after_first-rest.ensures.rest, c.from_place-tail.ensures, c.run_end-end.ensures.value)
    (doubled before c.args.field.now.items c.args.text.now here)

pub returns-clause-taken : goal.returns-clause-taken
returns-clause-taken c = λ before.
    let seen : is_quoted c.after_first-rest.result.now ≡ false = sym c.is_quoted.ensures ∙ c.if-is_quoted.false in
    let here = rw (c.after_first-rest.ensures.rest, c.from_place-tail.ensures, c.run_end-end.ensures.value) at seen in
    rw (c.in_ok-extend_from_slice.ensures.items, c.after_first-rest.ensures.rest, c.from_place-tail.ensures, c.run_end-end.ensures.value)
    (closed before c.args.field.now.items c.args.text.now here)
