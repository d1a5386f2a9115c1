use Rattle.std.proofs.Common.{◌≡◌, false, get_or, ap, sym, subst, ◌∙◌, arith, inl, inr}
use Rattle.std.proofs.lemmas.Bool.{cases_lt}
use Rattle.std.proofs.lemmas.List.{get_or_default}
use Rattle.partition.specs.declared.link.Link.{Link}
use Rattle.hop_kernels.specs.LabelTests.{is_labelled}
use Rattle.hop_kernels.proofs.ground.Ground.next_listed.Goals as goal

abbrev no_link : Link
no_link = record { other = 0; edge = 0; machine = 0; label = 0 }

pub looks-preserved : goal.looks-preserved
looks-preserved c =
    let wrong = is_labelled c.args.self.now.texts.now c.args.self.now.query.now c.args.variable in
    let entries = c.args.entries.now in
    record {
      rising = omega (arith, c.looks.invariant.rising);
      within = omega (arith, c.looks-test.true);
      passed = λ i d low below. elim (cases_lt i c.looks.at) [
        | inl less ↦ c.looks.invariant.passed i d low less
        | inr most ↦
            let same : c.looks.at ≡ i = omega (arith, below, most) in
            subst (λ n. wrong (get_or entries n d) ≡ false) same
            (ap wrong (get_or_default entries c.looks.at d no_link (omega (arith, c.looks-test.true, c.requires.within))) ∙ sym c.is_labelled.ensures ∙ c.if-not-is_labelled.true)
      ];
    }
