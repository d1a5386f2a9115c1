use Rattle.std.proofs.Common.{◌≡◌, ◌&&◌, true, false, ap, sym, ◌∙◌}
use Rattle.std.specs.List.{list_all}
use Rattle.plan_tree.specs.Answers.{all_hold}
use Rattle.plan_tree.specs.Told.{all_told}
use Rattle.hop_kernels.specs.Looks.{told_seen, words_seen}
use Rattle.hop_kernels.proofs.SeenWords.{all_told-seen}
use Rattle.hop_kernels.proofs.arrival.is_tested.Goals as goal

pub returns-then-all_told : goal.returns-then-all_told
returns-then-all_told c =
    let texts = c.args.ground.now.texts.now in
    let query = c.args.ground.now.query.now in
    let part = c.args.ground.now.part.now in
    let words = c.args.context.now.words in
    let seen = words_seen query part c.args.look words in
    let told : all_told texts query seen c.args.gains.now.reads ≡ true =
    sym (all_told-seen texts query part c.args.look words c.args.gains.now.reads c.requires.room c.first_word-word.ensures c.requires.fits.reads_there)
    ∙ ap (list_all (told_seen texts query part c.args.look words)) (sym c.as_slice.ensures) ∙ sym c.all_told.ensures ∙ c.if-all_told.true in
    c.all_hold.ensures ∙ ap (λ b. b && all_hold texts query seen c.args.gains.now.conjuncts) (sym told)

pub returns-else-all_told : goal.returns-else-all_told
returns-else-all_told c =
    let texts = c.args.ground.now.texts.now in
    let query = c.args.ground.now.query.now in
    let part = c.args.ground.now.part.now in
    let words = c.args.context.now.words in
    let seen = words_seen query part c.args.look words in
    let told : all_told texts query seen c.args.gains.now.reads ≡ false =
    sym (all_told-seen texts query part c.args.look words c.args.gains.now.reads c.requires.room c.first_word-word.ensures c.requires.fits.reads_there)
    ∙ ap (list_all (told_seen texts query part c.args.look words)) (sym c.as_slice.ensures) ∙ sym c.all_told.ensures ∙ c.if-all_told.false in
    c.if-all_told.false ∙ ap (λ b. b && all_hold texts query seen c.args.gains.now.conjuncts) (sym told)
