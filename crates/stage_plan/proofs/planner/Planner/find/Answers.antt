use Rattle.std.proofs.Common.{◌<◌, length, sym, ap, arith}
use Rattle.stage_plan.specs.Front.{Front}
use Rattle.stage_plan.specs.Rules.{passes}
use Rattle.stage_plan.proofs.Finds.{pick-none, pick-found}
use Rattle.stage_plan.proofs.planner.Planner.find.Goals as goal

pub returns-then-passes : goal.returns-then-passes
returns-then-passes c =
    let size = ap (λ (f : Front). length f.left) c.self.view_is in
    let below : c.loop-at.at < length c.args.self.now.left = omega (arith, size, c.self.inside.left.ok.0) in (
      below,
      pick-found (passes c.args.rule c.args.self.now) c.args.self.now.left c.loop-at.at below c.loop-at.invariant
          (λ d. sym (c.if-passes.ensures d)),
    )

pub returns : goal.returns
returns c =
    let size = ap (λ (f : Front). length f.left) c.self.view_is in
    pick-none (passes c.args.rule c.args.self.now) c.args.self.now.left
    (λ k below d. c.loop-at.invariant k (omega (arith, size, c.self.inside.left.ok.0, below)) d)
