use Rattle.std.proofs.Common.{◌∙◌, sym, refl}
use Rattle.csv_records.proofs.PlaceFacts.{on_err}
use Rattle.csv_records.proofs.TableFacts.{no_bytes, none_read, record_read}
use Rattle.csv_records.proofs.records.Records.next.Goals as goal

pub returns-then-is_empty-clause-record_read : goal.returns-then-is_empty-clause-record_read
returns-then-is_empty-clause-record_read c =
    let empty = rw c.past_line_ends-text.ensures at (sym c.is_empty.ensures ∙ c.if-is_empty.true) in
    rw (← c.self.view_is) (none_read c.self.inside.rest.now empty)

pub returns-then-is_empty-clause-rest : goal.returns-then-is_empty-clause-rest
returns-then-is_empty-clause-rest c =
    let empty = rw c.past_line_ends-text.ensures at (sym c.is_empty.ensures ∙ c.if-is_empty.true) in
    rw (← c.self.view_is, none_read c.self.inside.rest.now empty) no_bytes

pub returns-in_err-self-inside-clause-err : goal.returns-in_err-self-inside-clause-err
returns-in_err-self-inside-clause-err c = on_err c.from_residual.result no_bytes

pub returns-clause-record_read : goal.returns-clause-record_read
returns-clause-record_read c =
    let some = rw c.past_line_ends-text.ensures at (sym c.is_empty.ensures ∙ c.if-is_empty.false) in
    let taken = rw (c.clear.ensures, c.past_line_ends-text.ensures) at c.in_ok-self-inside.ensures.taken in
    rw (← c.self.view_is) (record_read c.self.inside.rest.now c.in_ok-self-inside.field-0.now c.take_fields.new.row some taken)

pub returns-clause-rest : goal.returns-clause-rest
returns-clause-rest c =
    let some = rw c.past_line_ends-text.ensures at (sym c.is_empty.ensures ∙ c.if-is_empty.false) in
    let taken = rw (c.clear.ensures, c.past_line_ends-text.ensures) at c.in_ok-self-inside.ensures.taken in
    let read = record_read c.self.inside.rest.now c.in_ok-self-inside.field-0.now c.take_fields.new.row some taken in
    rw (← c.self.view_is, read) refl
