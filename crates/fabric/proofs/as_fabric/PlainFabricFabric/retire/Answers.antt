use Rattle.fabric.proofs.Meets.{retire-meets}
use Rattle.fabric.proofs.as_fabric.PlainFabricFabric.retire.Goals as goal

pub returns : goal.returns
returns c = retire-meets c.args.self.now c.args.w c.retire.new.self c.retire.ensures
