use Rattle.std.proofs.Common.{◌<◌, length, ap₂, sym, subst, ◌∙◌}
use Rattle.std.specs.List.{AllByRecursion}
use Rattle.hop_kernels.specs.Looks.{all_pass}
use Rattle.hop_kernels.proofs.SeenWords.{all_hold-seen}
use Rattle.hop_kernels.proofs.look.all_hold_by.Goals as goal

pub returns : goal.returns
returns c =
    let texts = c.args.ground.now.texts.now in
    let query = c.args.ground.now.query.now in
    c.all_pass.ensures ∙ ap₂ (λ us ns. all_pass texts query us ns) c.put_values.ensures c.as_slice-2.ensures
    ∙ all_hold-seen texts query c.args.ground.now.part.now c.args.look c.args.context.now.words c.as_slice.result.now c.args.gains.now.conjuncts c.args.values.now c.requires.room
    c.first_word-word.ensures c.told-values (c.as_slice.ensures ∙ c.requires.fits.reads_are)
    (subst (AllByRecursion (λ p. p < length query.captures)) (sym c.as_slice.ensures) c.requires.fits.reads_there)
