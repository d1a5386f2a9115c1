use Rattle.std.proofs.Common.{◌∙◌, ◌++◌, ◌∷◌, [], ◌+◌, ◌-◌, sym, ap, append_assoc}
use Rattle.stage_plan.specs.Hops.{hops_from, most_hops}
use Rattle.stage_plan.proofs.NextHop.{hops_from-some, hops_from-none}
use Rattle.stage_plan.proofs.planner.hops_of.Goals as goal

pub returns-in-None : goal.returns-in-None
returns-in-None c =
    let l = c.loop-turn in
    rw c.in_ok-push-in-None.ensures.items
    (ap (λ xs. l.hops.items ++ xs) (sym (hops_from-none (most_hops c.args.edges.now) l._turn l.planner c.loop-turn-test.true c.in-None.ensures))
    ∙ l.invariant)

pub loop-turn-preserved : goal.loop-turn-preserved
loop-turn-preserved c =
    let l = c.loop-turn in
    let n = most_hops c.args.edges.now in
    rw c.in_ok-push-in-Some.ensures.items
    (append_assoc l.hops.items (c.in-Some.hop ∷ []) (hops_from (n - (l._turn + 1)) c.next_hop.new.self)
    ∙ ap (λ xs. l.hops.items ++ xs) (sym (hops_from-some n l._turn l.planner c.next_hop.new.self c.in-Some.hop c.loop-turn-test.true c.in-Some.ensures))
    ∙ l.invariant)
