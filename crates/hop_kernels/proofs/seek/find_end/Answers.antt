use Rattle.std.proofs.Common.{arith, inl, inr}
use Rattle.std.proofs.lemmas.Bool.{cases_lt}
use Rattle.partition.specs.declared.link.Link.{Link}
use Rattle.hop_kernels.proofs.Seeks.{by_halves}
use Rattle.hop_kernels.proofs.seek.find_end.Goals as goal

no_link : Link
no_link = record { other = 0; edge = 0; machine = 0; label = 0 }

pub returns-then-at-last-clause-passed : goal.returns-then-at-last-clause-passed
returns-then-at-last-clause-passed c =
    λ i after below.
    by_halves c.args.ground.now.texts.now c.args.ground.now.query.now c.args.gains.now c.args.aim.edge c.args.end c.args.aim.end c.args.context.now.words c.args.aim.out c.args.ground.now.part.now
    c.args.aim.place c.args.entries.now no_link c.args.from c.ends-first.result.0 c.ends-first.result.1 c.first_leading-at.result c.requires.end c.requires.entries
    (omega (arith, c.ends-first.ensures.order, c.ends-first.ensures.within)) c.ends-first.ensures.before c.ends-first.ensures.past c.first_leading-at.ensures.passed i after (inl below)

pub returns-else-at-last-clause-passed : goal.returns-else-at-last-clause-passed
returns-else-at-last-clause-passed c =
    λ i after below.
    by_halves c.args.ground.now.texts.now c.args.ground.now.query.now c.args.gains.now c.args.aim.edge c.args.end c.args.aim.end c.args.context.now.words c.args.aim.out c.args.ground.now.part.now
    c.args.aim.place c.args.entries.now no_link c.args.from c.ends-first.result.0 c.ends-first.result.1 c.first_leading-at.result c.requires.end c.requires.entries
    (omega (arith, c.ends-first.ensures.order, c.ends-first.ensures.within)) c.ends-first.ensures.before c.ends-first.ensures.past c.first_leading-at.ensures.passed i after
    (elim (cases_lt i c.ends-first.result.1) [ inl less ↦ inl (omega (arith, less, c.if-at-last.false, c.first_leading-at.ensures.within)) | inr more ↦ inr (more, below) ])
