use Rattle.std.proofs.Common.{true, false, sym, ◌∙◌, arith}
use Rattle.partition.specs.declared.link.Link.{Link}
use Rattle.hop_kernels.proofs.Seeks.{leads-freely, other-label, passed-on}
use Rattle.hop_kernels.proofs.seek.first_ending.Goals as goal

abbrev no_link : Link
no_link = record { other = 0; edge = 0; machine = 0; label = 0 }

pub looks-init : goal.looks-init
looks-init c = record {
  rising = c.next_labelled-at.ensures.rising;
  within = c.next_labelled-at.ensures.within;
  passed = λ words i low below.
      other-label c.args.ground.now.texts.now c.args.ground.now.query.now c.args.gains.now c.args.aim.edge c.args.aim.end words c.args.aim.out c.args.ground.now.part.now c.args.aim.place i c.args.entries.now no_link
      c.requires.entries (omega (arith, below, c.next_labelled-at.ensures.within, c.requires.within)) (c.next_labelled-at.ensures.passed i no_link low below);
  labelled = c.next_labelled-at.ensures.found;
}

pub looks-preserved : goal.looks-preserved
looks-preserved c = record {
  rising = omega (arith, c.looks.invariant.rising, c.next_labelled-at-in-looks.ensures.rising);
  within = c.next_labelled-at-in-looks.ensures.within;
  passed = λ words. passed-on c.args.ground.now.texts.now c.args.ground.now.query.now c.args.gains.now c.args.aim.edge c.args.aim.end words c.args.aim.out c.args.ground.now.part.now c.args.aim.place c.args.entries.now no_link c.args.from c.looks.at
      c.next_labelled-at-in-looks.result c.requires.entries (omega (arith, c.next_labelled-at-in-looks.ensures.within, c.requires.within)) (c.looks.invariant.passed words)
      (leads-freely c.args.ground.now.texts.now c.args.ground.now.query.now c.args.gains.now c.args.aim.edge c.args.aim.end words c.args.aim.out c.args.ground.now.part.now c.args.aim.place c.looks.at c.args.entries.now no_link false
      c.requires.entries (omega (arith, c.looks-test.true, c.requires.within)) c.requires.free (c.looks.invariant.labelled no_link c.looks-test.true) (sym c.ends_at.ensures ∙ c.if-not-ends_at.true))
      c.next_labelled-at-in-looks.ensures.passed;
  labelled = c.next_labelled-at-in-looks.ensures.found;
}

pub returns-else-not-ends_at-clause-found : goal.returns-else-not-ends_at-clause-found
returns-else-not-ends_at-clause-found c =
    λ words below.
    leads-freely c.args.ground.now.texts.now c.args.ground.now.query.now c.args.gains.now c.args.aim.edge c.args.aim.end words c.args.aim.out c.args.ground.now.part.now c.args.aim.place c.looks.at c.args.entries.now no_link true
    c.requires.entries (omega (arith, below, c.requires.within)) c.requires.free (c.looks.invariant.labelled no_link below) (sym c.ends_at.ensures ∙ c.if-not-ends_at.false)
