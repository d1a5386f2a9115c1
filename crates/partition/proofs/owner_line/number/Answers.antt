use Rattle.partition.proofs.Numerals.{plain_text, too_great}
use Rattle.partition.proofs.owner_line.number.Goals as goal

pub returns-in-Err-parse : goal.returns-in-Err-parse
returns-in-Err-parse c = too_great c.args.text.now c.requires (rw c.in-Ok.ensures.cases.0 at c.in-Err-parse.ensures.value.0)

pub returns-in-Err : goal.returns-in-Err
returns-in-Err c = absurd (c.in-Err.ensures.cases.0 (plain_text c.args.text.now c.requires))
