use Rattle.std.proofs.Common.{◌≡◌, drop}
use Rattle.plan_tree.specs.Told.{written}
use Rattle.hop_kernels.specs.Spots.{element_in}
use Rattle.hop_kernels.proofs.words.write.Given as goal

abbrev pub invariant-loop-place : goal.invariant-loop-place
invariant-loop-place l =
    written l.query (element_in l.part l.spot) (drop l.place-index l.places) l.words ≡ written l.query (element_in l.part l.spot) l.places l.initial.words
