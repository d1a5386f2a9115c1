use Rattle.value_text.proofs.Days.{day_digits}
use Rattle.value_text.proofs.dates.day_of.Goals as goal

pub two_digits-requires-clause-first : goal.two_digits-requires-clause-first
two_digits-requires-clause-first c = (day_digits c.args.text.now c.requires).0

pub two_digits-requires-clause-second : goal.two_digits-requires-clause-second
two_digits-requires-clause-second c = (day_digits c.args.text.now c.requires).1
