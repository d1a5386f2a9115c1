use Rattle.std.proofs.Common.{◌≡◌, ◌<◌, length, ap, ◌∙◌, arith}
use Rattle.world_core.specs.World.{World}
use Rattle.world_core.proofs.Rowless.{first_rows, first-all, first-length, some-worker, taken-next, taken-rows}
use Rattle.world_core.proofs.gather.take_all.Goals as goal

pub take_rows-rows-requires : goal.take_rows-rows-requires
take_rows-rows-requires c = some-worker c.args.world.now c.workers-count.ensures.sound

pub take_rows-own-requires : goal.take_rows-own-requires
take_rows-own-requires c =
    let size = ap (λ (w : World). length w.workers) c.loop-w.invariant.world ∙ first-length c.loop-w.w c.args.world.now.workers in
    let workers = ap length c.workers-count.ensures.workers in
    omega (arith, c.loop-w-test.true)

pub loop-w-preserved : goal.loop-w-preserved
loop-w-preserved c =
    let size = ap (λ (w : World). length w.workers) c.loop-w.invariant.world ∙ first-length c.loop-w.w c.args.world.now.workers in
    let workers = ap length c.workers-count.ensures.workers in
    let low : c.loop-w.w < length c.args.world.now.workers = omega (arith, c.loop-w-test.true) in
    record {
      world = taken-next c.args.world.now c.loop-w.world c.take_rows-own.new.self c.loop-w.w low c.loop-w.invariant.world c.take_rows-own.ensures.left;
      rows = c.in_ok-add.ensures ∙ taken-rows c.args.world.now c.loop-w.world c.loop-w.w c.loop-w.rows.items c.take_rows-own.result.items low c.loop-w.invariant.world c.loop-w.invariant.rows c.take_rows-own.ensures.rows;
    }

pub returns : goal.returns
returns c =
    let workers = ap length c.workers-count.ensures.workers in
    let some = some-worker c.args.world.now c.workers-count.ensures.sound in
    let end : c.loop-w.w ≡ length c.args.world.now.workers = omega (arith, c.loop-w-test.false, c.loop-w.auto.w-end) in
    c.loop-w.invariant.rows ∙ ap (λ n. first_rows n c.args.world.now.workers) end ∙ first-all c.args.world.now.workers
