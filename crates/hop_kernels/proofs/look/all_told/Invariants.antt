use Rattle.std.proofs.Common.{◌≡◌, drop}
use Rattle.std.specs.List.{list_all}
use Rattle.hop_kernels.specs.Looks.{told_seen}
use Rattle.hop_kernels.proofs.look.all_told.Given as goal

abbrev pub invariant-loop-place : goal.invariant-loop-place
invariant-loop-place l =
    list_all (told_seen l.ground.texts.now l.ground.query.now l.ground.part.now l.look l.context.words) (drop l.place-index l.places)
    ≡ list_all (told_seen l.ground.texts.now l.ground.query.now l.ground.part.now l.look l.context.words) l.places
