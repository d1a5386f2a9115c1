use Rattle.std.proofs.Common.{sym, ◌∙◌, arith}
use Rattle.partition.specs.declared.link.Link.{Link}
use Rattle.hop_kernels.proofs.Seeks.{link-at, other-label, passed-on}
use Rattle.hop_kernels.proofs.seek.first_holding.Goals as goal

abbrev no_link : Link
no_link = record { other = 0; edge = 0; machine = 0; label = 0 }

pub looks-init : goal.looks-init
looks-init c = record {
  rising = c.next_labelled-at.ensures.rising;
  within = c.next_labelled-at.ensures.within;
  passed = λ i low below.
      other-label c.args.ground.now.texts.now c.args.ground.now.query.now c.args.gains.now c.args.aim.edge c.args.aim.end c.args.context.now.words c.args.aim.out c.args.ground.now.part.now c.args.aim.place i c.args.entries.now no_link
      c.requires.entries (omega (arith, below, c.next_labelled-at.ensures.within, c.requires.within)) (c.next_labelled-at.ensures.passed i no_link low below);
  labelled = c.next_labelled-at.ensures.found;
}

pub leads-requires-clause-entry : goal.leads-requires-clause-entry
leads-requires-clause-entry c =
    link-at c.args.aim.out c.args.ground.now.part.now c.args.aim.place c.looks.at c.args.entries.now no_link c.requires.entries (omega (arith, c.looks-test.true, c.requires.within))

pub looks-preserved : goal.looks-preserved
looks-preserved c = record {
  rising = omega (arith, c.looks.invariant.rising, c.next_labelled-at-in-looks.ensures.rising);
  within = c.next_labelled-at-in-looks.ensures.within;
  passed = passed-on c.args.ground.now.texts.now c.args.ground.now.query.now c.args.gains.now c.args.aim.edge c.args.aim.end c.args.context.now.words c.args.aim.out c.args.ground.now.part.now c.args.aim.place c.args.entries.now no_link c.args.from c.looks.at
      c.next_labelled-at-in-looks.result c.requires.entries (omega (arith, c.next_labelled-at-in-looks.ensures.within, c.requires.within)) c.looks.invariant.passed
      (sym c.leads.ensures ∙ c.if-leads.false)
      c.next_labelled-at-in-looks.ensures.passed;
  labelled = c.next_labelled-at-in-looks.ensures.found;
}
