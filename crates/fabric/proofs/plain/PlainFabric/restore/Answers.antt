use Rattle.fabric.proofs.Tables.{Restored, restored}
use Rattle.fabric.proofs.plain.PlainFabric.restore.Goals as goal

left : (c : goal.After-self-1) → Restored c.self.inside c.args.self.now c.home-home.result c.args.buffer.home c.put.new.self
left c =
    restored c.self.inside c.args.self.now c.home-home.result c.args.buffer.home c.index_mut.result.now c.put.new.self
    c.self.invariant c.self.view_is c.home-home.ensures c.requires.home c.index_mut.ensures.value c.put.ensures

pub invariant_of-self : goal.invariant_of-self
invariant_of-self c = (left c).0

pub returns : goal.returns
returns c = (left c).1
