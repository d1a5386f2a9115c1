use Rattle.hop_kernels.proofs.SeenWords.{put-step}
use Rattle.hop_kernels.proofs.look.put_values.Goals as goal

pub loop-place-preserved : goal.loop-place-preserved
loop-place-preserved c =
    put-step c.args.ground.now.query.now c.args.ground.now.part.now c.args.look c.args.context.now.words c.args.places.now c.loop-place.values _ c.loop-place.place-index _
    c.loop-place-test.true c.value_seen.ensures c.loop-place.invariant
