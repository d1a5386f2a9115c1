use Rattle.fabric.proofs.Meets.{push-meets}
use Rattle.fabric.proofs.as_fabric.PlainFabricFabric.push.Goals as goal

pub returns : goal.returns
returns c = push-meets c.args.self.now c.args.w c.args.message c.push.result c.push.new.self c.push.ensures.ok c.push.ensures.err
