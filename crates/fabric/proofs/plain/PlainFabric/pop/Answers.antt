use Rattle.std.proofs.Common.{ap, arith}
use Rattle.fabric.specs.Shared.{machine_of, IsMessageStage}
use Rattle.fabric.proofs.Tables.{Popped, popped}
use Rattle.fabric.proofs.plain.PlainFabric.pop.Goals as goal

left : (c : goal.After-self-1) → Popped c.self.inside c.args.self.now (machine_of c.args.self.now c.args.w) c.args.stage c.inbox_place-at.result c.pop.new.self c.pop.result
left c =
    let not_first = c.if-stage-eq0.false in
    let below = c.if-stage-stages.false in
    let stages = c.stages.ensures.number in
    let view = ap (λ h. h.shape.stages) c.self.view_is in
    let stage : IsMessageStage c.args.self.now c.args.stage = (omega arith, omega arith) in
    popped c.self.inside c.args.self.now c.machine-machine.result (machine_of c.args.self.now c.args.w) c.args.stage c.inbox_place-at.result c.index_mut.result.now c.pop.new.self c.pop.result
    c.self.invariant c.self.view_is c.machine-machine.ensures.number stage c.inbox_place-at.ensures.at c.inbox_place-at.ensures.within c.index_mut.ensures.value c.pop.ensures.answer c.pop.ensures.change

pub invariant_of-self : goal.invariant_of-self
invariant_of-self c = (left c).0

pub returns-clause-answer : goal.returns-clause-answer
returns-clause-answer c = (left c).1

pub returns-clause-change : goal.returns-clause-change
returns-clause-change c = (left c).2
