use Rattle.fabric.proofs.Tables.{Fetched, fetched}
use Rattle.fabric.specs.Shared.{machine_of}
use Rattle.fabric.proofs.plain.PlainFabric.fetch.Goals as goal

left : (c : goal.After-self-1) → Fetched c.self.inside c.args.self.now c.machine-machine.result (machine_of c.args.self.now c.args.w) c.take.new.self c.take.result
left c =
    fetched c.self.inside c.args.self.now c.machine-machine.result (machine_of c.args.self.now c.args.w) c.index_mut.result.now c.take.new.self c.take.result
    c.self.invariant c.self.view_is c.machine-machine.ensures.number c.machine-machine.ensures.within c.index_mut.ensures.value c.take.ensures.answer c.take.ensures.change

pub invariant_of-self : goal.invariant_of-self
invariant_of-self c = (left c).0

pub returns-clause-answer : goal.returns-clause-answer
returns-clause-answer c = (left c).1

pub returns-clause-change : goal.returns-clause-change
returns-clause-change c = (left c).2
