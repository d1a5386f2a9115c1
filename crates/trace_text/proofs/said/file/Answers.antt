use Rattle.std.proofs.Common.{◌∙◌, ap, sym, Some}
use Rattle.trace_text.proofs.Files.{file_is, file_is_not}
use Rattle.trace_text.proofs.said.file.Goals as goal

pub returns-in-Ok : goal.returns-in-Ok
returns-in-Ok c =
    ap (λ file. Some file) c.in-Ok.ensures.cases.0
    ∙ sym (file_is c.args.text.now (sym c.if-is_empty.ensures) (sym c.if-not-has_no_control_byte.ensures) c.in-Ok.ensures.cases.1)

pub returns-in-Err : goal.returns-in-Err
returns-in-Err c = sym (file_is_not c.args.text.now (sym c.if-is_empty.ensures) (sym c.if-not-has_no_control_byte.ensures) c.in-Err.ensures.cases.0)
