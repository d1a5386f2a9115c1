use Rattle.fabric.proofs.Meets.{pick-meets}
use Rattle.fabric.proofs.as_fabric.PlainFabricFabric.pick.Goals as goal

pub returns : goal.returns
returns c = pick-meets c.args.self.now c.args.w c.args.from c.args.stage c.pick.result c.pick.new.self c.pick.ensures.answer c.pick.ensures.change
