use Rattle.fabric.proofs.Meets.{claim-meets}
use Rattle.fabric.proofs.as_fabric.PlainFabricFabric.claim.Goals as goal

pub returns : goal.returns
returns c = claim-meets c.args.self.now c.args.w c.claim.result c.claim.new.self c.claim.ensures.answer c.claim.ensures.change c.requires
