use Rattle.std.proofs.Common.{sym}
use Rattle.cli_words.proofs.Numbers.{number_none}
use Rattle.cli_words.proofs.number.number.Goals as goal

pub returns-in-Err : goal.returns-in-Err
returns-in-Err c = sym (number_none c.args.word.now (sym c.if-not-is_number.ensures) c.in-Err.ensures.value.0)
