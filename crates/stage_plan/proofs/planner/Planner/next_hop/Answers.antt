use Rattle.std.proofs.Common.{get_or, remove}
use Rattle.stage_plan.proofs.NextHop.{no_edge, next_hop-closes, next_hop-reaches, next_hop-touches}
use Rattle.stage_plan.proofs.planner.Planner.next_hop.Goals as goal

pub returns-in-Some : goal.returns-in-Some
returns-in-Some c =
    let f = c.args.self.now in
    next_hop-closes f c.walk-out.new.self (get_or f.left c.in-Some.at no_edge) (remove f.left c.in-Some.at) c.walk-out.result
    (c.in-Some.ensures.1 no_edge) (c.walk-out.ensures.walk no_edge) (c.walk-out.ensures.after no_edge)

pub returns-in-Some-find : goal.returns-in-Some-find
returns-in-Some-find c =
    let f = c.args.self.now in
    let walk = c.walk-out-in-Some-find in
    next_hop-reaches f walk.new.self c.bind.new.self (get_or f.left c.in-Some-find.at no_edge) (remove f.left c.in-Some-find.at) walk.result
    c.in_default.ensures (c.in-Some-find.ensures.1 no_edge) (walk.ensures.walk no_edge) (walk.ensures.after no_edge) c.bind.ensures

pub returns-in-Some-find-2 : goal.returns-in-Some-find-2
returns-in-Some-find-2 c =
    let f = c.args.self.now in
    next_hop-touches f c.turn.new.self (get_or f.left c.in-Some-find-2.at no_edge) (remove f.left c.in-Some-find-2.at) c.end-end.result
    c.in_default.ensures c.in_default-find.ensures (c.in-Some-find-2.ensures.1 no_edge) (c.end-end.ensures no_edge) c.turn.ensures
