use Rattle.std.proofs.Common.{◌≡◌, ◌∙◌, sym, true}
use Rattle.trace_text.specs.Numbers.{is_plain}
use Rattle.trace_text.proofs.Numerals.{number_read, plain_text}
use Rattle.trace_text.proofs.number.number.Goals as goal

pub returns-in-Ok : goal.returns-in-Ok
returns-in-Ok c =
    let plain : is_plain c.args.text.now ≡ true = sym c.if-not-is_plain.ensures in
    let parses = rw c.in-Ok.ensures.cases.0 at c.parse.ensures.value.0 in
    c.ok.ensures.value ∙ number_read c.args.text.now c.parse.result plain parses

pub returns-in-Err : goal.returns-in-Err
returns-in-Err c = absurd (c.in-Err.ensures.cases.0 (plain_text c.args.text.now (sym c.if-not-is_plain.ensures)))
