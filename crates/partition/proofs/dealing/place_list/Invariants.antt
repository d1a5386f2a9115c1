use Rattle.std.proofs.Common.{◌≡◌, ◌<◌, ℕ, length, slice_index}
use Rattle.partition.specs.Kept.{rank}
use Rattle.partition.proofs.DealingFacts.{among}
use Rattle.partition.proofs.dealing.place_list.Given as goal

abbrev pub invariant-loop-owner : goal.invariant-loop-owner
invariant-loop-owner l = record {
  counts : length l.counts.items ≡ l.machines;
  counted : (m : ℕ) → m < l.machines → slice_index l.counts.items m ≡ among l.owners l.owner-index m;
  sized : length l.places.items ≡ l.owner-index;
  placed : (v : ℕ) → v < l.owner-index → slice_index l.places.items v ≡ rank l.owners v;
}
