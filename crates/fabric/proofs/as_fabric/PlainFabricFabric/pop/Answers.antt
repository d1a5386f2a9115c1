use Rattle.fabric.proofs.Meets.{pop-meets}
use Rattle.fabric.proofs.as_fabric.PlainFabricFabric.pop.Goals as goal

pub returns : goal.returns
returns c = pop-meets c.args.self.now c.args.w c.args.stage c.pop.result c.pop.new.self c.pop.ensures.answer c.pop.ensures.change c.requires
