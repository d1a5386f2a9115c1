use Rattle.std.proofs.Common.{ap, get_or, ◌∙◌, length}
use Rattle.plan_tree.specs.Told.{with_capture}
use Rattle.hop_kernels.specs.Spots.{element_in}
use Rattle.hop_kernels.proofs.SeenWords.{write-step}
use Rattle.hop_kernels.proofs.words.write.Goals as goal

pub loop-place-preserved : goal.loop-place-preserved
loop-place-preserved c =
    let place = get_or c.args.places.now c.loop-place.place-index 0 in
    write-step c.args.query.now (element_in c.args.part.now c.args.spot) c.args.places.now c.loop-place.words _ c.put_capture.new.words c.loop-place.place-index c.word_at-word.result
    c.loop-place-test.true c.word_at-word.ensures
    (c.put_capture.ensures ∙ ap (λ n. with_capture n place c.word_at-word.result c.loop-place.words) (ap length c.as_slice-variables.ensures)) c.loop-place.invariant
