use Rattle.fabric.proofs.Meets.{restore-meets}
use Rattle.fabric.proofs.as_fabric.PlainFabricFabric.restore.Goals as goal

pub returns : goal.returns
returns c = restore-meets c.args.self.now c.args.w c.args.buffer c.restore.result c.restore.new.self c.restore.ensures
