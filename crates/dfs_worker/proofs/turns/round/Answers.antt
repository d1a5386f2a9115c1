use Rattle.std.proofs.Common.{◌-◌, ◌∙◌, length, take, drop, sym, subst}
use Rattle.dfs_worker.specs.declared.turn.Turn.TheVariants.{Idle}
use Rattle.dfs_worker.specs.Turn.{IsTurn}
use Rattle.dfs_worker.proofs.Rounds.{idle-alike, tries_at, rest-is, round-begun, parts-on, parts-made}
use Rattle.dfs_worker.proofs.turns.round.Goals as goal

pub sweep-requires-in-Idle-clause-free : goal.sweep-requires-in-Idle-clause-free
sweep-requires-in-Idle-clause-free g c =
    let items = c.items-attempts.result.now in
    (idle-alike g.F.Fabric.done g.F.Fabric.excused (g.X.Expand.tree c.args.x.now) c.args.worker.now c.sweep.new.worker c.args.fabric.now c.sweep.new.fabric
    (tries_at c.args.worker.now (take (length items - c.start_at-start.result) (drop c.start_at-start.result items))) c.in-Idle.ensures.answered).hand
    ∙ c.requires.free

pub returns-in-Idle : goal.returns-in-Idle
returns-in-Idle g c =
    let v = c.args.worker.now in
    let items = c.items-attempts.result.now in
    let start = c.start_at-start.result in
    let done = g.F.Fabric.done in
    let excused = g.F.Fabric.excused in
    let tree = g.X.Expand.tree c.args.x.now in
    let begun = round-begun v c.hand_state.result c.actions-list.result items c.look.result (g.P.Policy.answer c.args.policy.now) c.choice-at.result start
    c.hand_state.ensures c.actions-list.ensures c.items-attempts.ensures.items c.look.ensures c.choice-at.ensures.chosen c.start_at-start.ensures.start in
    record {
      answered =
          subst (λ ts. IsTurn done excused tree v c.args.fabric.now ts c.sweep-in-Idle.result c.sweep-in-Idle.new.worker c.sweep-in-Idle.new.fabric) (sym begun)
          (parts-on done excused tree v c.sweep.new.worker c.sweep-in-Idle.new.worker c.args.fabric.now c.sweep.new.fabric c.sweep-in-Idle.new.fabric (drop start items)
          (take start items) c.sweep-in-Idle.result
          (subst (λ xs. IsTurn done excused tree v c.args.fabric.now (tries_at v xs) Idle c.sweep.new.worker c.sweep.new.fabric) (rest-is items start) c.in-Idle.ensures.answered)
          c.sweep-in-Idle.ensures.answered);
      fits = c.sweep-in-Idle.ensures.fits;
    }

pub returns-in_default : goal.returns-in_default
returns-in_default g c =
    let v = c.args.worker.now in
    let items = c.items-attempts.result.now in
    let start = c.start_at-start.result in
    let done = g.F.Fabric.done in
    let excused = g.F.Fabric.excused in
    let tree = g.X.Expand.tree c.args.x.now in
    let begun = round-begun v c.hand_state.result c.actions-list.result items c.look.result (g.P.Policy.answer c.args.policy.now) c.choice-at.result start
    c.hand_state.ensures c.actions-list.ensures c.items-attempts.ensures.items c.look.ensures c.choice-at.ensures.chosen c.start_at-start.ensures.start in
    record {
      answered =
          subst (λ ts. IsTurn done excused tree v c.args.fabric.now ts c.sweep.result c.sweep.new.worker c.sweep.new.fabric) (sym begun)
          (parts-made done excused tree v c.sweep.new.worker c.args.fabric.now c.sweep.new.fabric (drop start items) (take start items) c.sweep.result c.in_default.not-Idle
          (subst (λ xs. IsTurn done excused tree v c.args.fabric.now (tries_at v xs) c.sweep.result c.sweep.new.worker c.sweep.new.fabric) (rest-is items start) c.sweep.ensures.answered));
      fits = c.sweep.ensures.fits;
    }
