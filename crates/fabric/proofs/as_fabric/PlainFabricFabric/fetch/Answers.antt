use Rattle.fabric.proofs.Meets.{fetch-meets}
use Rattle.fabric.proofs.as_fabric.PlainFabricFabric.fetch.Goals as goal

pub returns : goal.returns
returns c = fetch-meets c.args.self.now c.args.w c.fetch.result c.fetch.new.self c.fetch.ensures.answer c.fetch.ensures.change
