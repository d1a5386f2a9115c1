use Rattle.std.proofs.Common.{arith}
use Rattle.fabric.proofs.Agrees.{open-taken, machine-within}
use Rattle.fabric.proofs.Meets.{post-meets}
use Rattle.fabric.proofs.as_fabric.PlainFabricFabric.post.Goals as goal

pub post-requires-clause-taken : goal.post-requires-clause-taken
post-requires-clause-taken c =
    let x = c.requires.0 in
    let agrees = c.requires.1.0 in
    let allows = c.requires.1.1 in
    let some = allows.2 in
    let taken =
    open-taken c.args.self.now c.args.w c.args.stage c.args.to x agrees
    (machine-within c.args.self.now c.args.w agrees.shared agrees.worker_in, allows.0.0, allows.0.1, allows.1) in
    omega arith

pub returns : goal.returns
returns c = post-meets c.args.self.now c.args.w c.args.stage c.args.to c.post.new.self c.post.ensures
