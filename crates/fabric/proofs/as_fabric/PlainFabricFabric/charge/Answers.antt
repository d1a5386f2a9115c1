use Rattle.fabric.proofs.Meets.{charge-meets}
use Rattle.fabric.proofs.as_fabric.PlainFabricFabric.charge.Goals as goal

pub returns : goal.returns
returns c = charge-meets c.args.self.now c.args.w c.args.stage c.args.to c.charge.result c.charge.new.self c.charge.ensures.answer c.charge.ensures.change
