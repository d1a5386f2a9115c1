use Rattle.std.proofs.Common.{◌≡◌, ◌<◌, ◌≤◌, ◌-◌, ◌==◌, ℕ, false}
use Rattle.std.specs.Prelude.{slice_index_or}
use Rattle.partition.specs.declared.link.Link.{Link}
use Rattle.hop_kernels.proofs.ground.first_of_label.Given as goal

abbrev pub invariant-looks : goal.invariant-looks
invariant-looks l = record {
  rising : l.from ≤ l.at;
  within : l.at ≤ l.to;
  passed : (i : ℕ) (d : Link) → l.from ≤ i → i < l.at → ((slice_index_or l.entries i d).label == l.label) ≡ false;
}

abbrev pub decreases-looks : goal.decreases-looks
decreases-looks l = l.to - l.at
