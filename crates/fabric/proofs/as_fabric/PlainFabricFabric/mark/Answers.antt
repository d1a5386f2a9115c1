use Rattle.fabric.proofs.Meets.{mark-meets}
use Rattle.fabric.proofs.as_fabric.PlainFabricFabric.mark.Goals as goal

pub returns : goal.returns
returns c = mark-meets c.args.self.now c.args.w c.args.word c.mark.result c.mark.new.self c.mark.ensures.answer c.mark.ensures.change
