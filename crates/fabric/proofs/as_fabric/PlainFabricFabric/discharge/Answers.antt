use Rattle.std.proofs.Common.{arith}
use Rattle.fabric.proofs.Agrees.{work-taken, machine-within}
use Rattle.fabric.proofs.Meets.{discharge-meets}
use Rattle.fabric.proofs.as_fabric.PlainFabricFabric.discharge.Goals as goal

pub discharge-requires-clause-taken : goal.discharge-requires-clause-taken
discharge-requires-clause-taken c =
    let x = c.requires.0 in
    let agrees = c.requires.1.0 in
    let allows = c.requires.1.1 in
    let some = allows.2 in
    let taken =
    work-taken c.args.self.now c.args.w c.args.from c.args.stage x agrees
    (allows.0, allows.1.0, allows.1.1, machine-within c.args.self.now c.args.w agrees.shared agrees.worker_in) in
    omega arith

pub returns : goal.returns
returns c = discharge-meets c.args.self.now c.args.w c.args.from c.args.stage c.discharge.new.self c.discharge.ensures
