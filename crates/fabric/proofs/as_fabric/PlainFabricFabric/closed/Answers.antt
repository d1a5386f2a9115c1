use Rattle.fabric.proofs.Meets.{look-meets}
use Rattle.fabric.proofs.as_fabric.PlainFabricFabric.closed.Goals as goal

pub returns-clause-seen : goal.returns-clause-seen
returns-clause-seen c = look-meets c.args.self.now c.args.w c.closed.result c.closed.new.self c.closed.ensures.answer c.closed.ensures.change c.requires
