use Rattle.std.proofs.Common.{◌≡◌, drop}
use Rattle.hop_kernels.specs.Looks.{with_values}
use Rattle.hop_kernels.proofs.look.put_values.Given as goal

abbrev pub invariant-loop-place : goal.invariant-loop-place
invariant-loop-place l =
    with_values l.ground.query.now l.ground.part.now l.look l.context.words (drop l.place-index l.places) l.values
    ≡ with_values l.ground.query.now l.ground.part.now l.look l.context.words l.places l.initial.values
