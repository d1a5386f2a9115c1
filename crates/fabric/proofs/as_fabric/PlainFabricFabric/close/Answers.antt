use Rattle.fabric.proofs.Meets.{close-meets}
use Rattle.fabric.proofs.as_fabric.PlainFabricFabric.close.Goals as goal

pub returns : goal.returns
returns c = close-meets c.args.self.now c.args.w c.close.result c.close.new.self c.close.ensures.answer c.close.ensures.change c.requires
