use Rattle.std.proofs.Common.{◌≡◌, drop}
use Rattle.hop_kernels.specs.Looks.{all_pass}
use Rattle.hop_kernels.proofs.look.all_pass.Given as goal

abbrev pub invariant-loop-number : goal.invariant-loop-number
invariant-loop-number l =
    all_pass l.ground.texts.now l.ground.query.now l.values (drop l.number-index l.conjuncts) ≡ all_pass l.ground.texts.now l.ground.query.now l.values l.conjuncts
