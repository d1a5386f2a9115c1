use Rattle.std.proofs.Common.{sym}
use Rattle.hop_kernels.proofs.LabelNumbers.{no-number, one-number}
use Rattle.hop_kernels.proofs.labels.test_of_name.Goals as goal

pub returns-in-Some : goal.returns-in-Some
returns-in-Some c = λ label. one-number c.args.texts.now c.args.name.now c.in-Some.number label c.len.ensures.distinct (sym c.in-Some.ensures.place) c.requires

pub returns-in-None : goal.returns-in-None
returns-in-None c = λ label. no-number c.args.texts.now c.args.name.now label (sym c.in-None.ensures.place) c.requires
