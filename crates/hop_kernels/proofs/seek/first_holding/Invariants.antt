use Rattle.std.proofs.Common.{◌≡◌, ◌<◌, ◌≤◌, ◌-◌, ℕ, true, false}
use Rattle.std.specs.Prelude.{slice_index_or}
use Rattle.partition.specs.declared.link.Link.{Link}
use Rattle.hop_kernels.specs.LabelTests.{is_labelled}
use Rattle.hop_kernels.specs.Seeks.{leads}
use Rattle.hop_kernels.specs.Spots.{entry_in}
use Rattle.hop_kernels.proofs.seek.first_holding.Given as goal

abbrev pub invariant-looks : goal.invariant-looks
invariant-looks l = record {
  rising : l.from ≤ l.at;
  within : l.at ≤ l.to;
  passed : (i : ℕ) → l.from ≤ i → i < l.at
      → leads l.ground.texts.now l.ground.query.now l.gains l.aim.edge l.aim.end l.context.words (entry_in l.aim.out l.ground.part.now l.aim.place i) ≡ false;
  labelled : (d : Link) → l.at < l.to → is_labelled l.ground.texts.now l.ground.query.now l.aim.edge (slice_index_or l.entries l.at d) ≡ true;
}

abbrev pub decreases-looks : goal.decreases-looks
decreases-looks l = l.to - l.at
