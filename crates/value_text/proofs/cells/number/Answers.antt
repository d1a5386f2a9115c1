use Rattle.std.proofs.Common.{◌∙◌}
use Rattle.value_text.proofs.Numerals.{number_is, number_none}
use Rattle.value_text.proofs.cells.number.Goals as goal

pub returns-in-Ok : goal.returns-in-Ok
returns-in-Ok c = c.ok.ensures.value ∙ number_is c.args.cell.now c.parse.result (rw c.in-Ok.ensures.cases.0 at c.parse.ensures.value.0)

pub returns-in-Err : goal.returns-in-Err
returns-in-Err c = number_none c.args.cell.now c.in-Err.ensures.cases.0
