use Rattle.std.proofs.Common.{◌∙◌, ap}
use Rattle.stage_plan.specs.Walk.{stages_of}
use Rattle.stage_plan.proofs.NextHop.{plan-bounds}
use Rattle.stage_plan.proofs.Wellness.{edges_there}
use Rattle.stage_plan.proofs.plan.plan_within.Goals as goal

pub hops_of-requires-clause-named : goal.hops_of-requires-clause-named
hops_of-requires-clause-named c = rw (c.as_slice.ensures, c.as_slice-2.ensures) (edges_there c.args.query.now c.requires.well)

pub invariant_of-result : goal.invariant_of-result
invariant_of-result c =
    let hops = rw (c.as_slice.ensures, c.as_slice-2.ensures) at c.in_ok-hops.ensures in
    let stages = c.in_ok-stages.ensures ∙ ap (stages_of c.args.query.now) c.deref.ensures.value in
    plan-bounds c.args.query.now c.in_ok-hops.hops.items c.in_ok-stages.stages.items c.args.words c.requires.well hops stages
