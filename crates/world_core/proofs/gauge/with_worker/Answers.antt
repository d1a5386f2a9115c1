use Rattle.std.proofs.Common.{ap, arith}
use Rattle.world_core.specs.Gauge.{in_hand, in_frame, at_frame, one_buffer, its_contexts}
use Rattle.world_core.proofs.Gauges.{stack-sum}
use Rattle.world_core.proofs.gauge.with_worker.Goals as goal

pub with_frames-requires-clause-buffers : goal.with_frames-requires-clause-buffers
with_frames-requires-clause-buffers c =
    let sum = stack-sum (in_frame one_buffer) c.stack.result.now c.args.worker.now.stack c.stack.ensures in
    let hand = ap (in_hand one_buffer) c.hand.ensures in
    omega arith

pub with_frames-requires-clause-contexts : goal.with_frames-requires-clause-contexts
with_frames-requires-clause-contexts c =
    let sum = stack-sum (in_frame its_contexts) c.stack.result.now c.args.worker.now.stack c.stack.ensures in
    let own = stack-sum at_frame c.stack.result.now c.args.worker.now.stack c.stack.ensures in
    let hand = ap (in_hand its_contexts) c.hand.ensures in
    omega arith

pub returns-clause-buffers : goal.returns-clause-buffers
returns-clause-buffers c =
    let sum = stack-sum (in_frame one_buffer) c.stack.result.now c.args.worker.now.stack c.stack.ensures in
    let hand = ap (in_hand one_buffer) c.hand.ensures in
    omega arith

pub returns-clause-contexts : goal.returns-clause-contexts
returns-clause-contexts c =
    let sum = stack-sum (in_frame its_contexts) c.stack.result.now c.args.worker.now.stack c.stack.ensures in
    let own = stack-sum at_frame c.stack.result.now c.args.worker.now.stack c.stack.ensures in
    let hand = ap (in_hand its_contexts) c.hand.ensures in
    omega arith
