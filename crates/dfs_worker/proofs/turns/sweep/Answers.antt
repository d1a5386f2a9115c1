use Rattle.std.proofs.Common.{◌+◌, get_or, drop, sym, subst}
use Rattle.bfs_budget.specs.declared.tries.Attempt.TheVariants as attempt
use Rattle.dfs_worker.specs.Turn.{IsTurn, tries_of}
use Rattle.dfs_worker.proofs.Rounds.{Alike-trans, idle-alike, tries_at, from-place, attempt-on, attempt-made}
use Rattle.dfs_worker.proofs.turns.sweep.Goals as goal

pub loop-attempt-preserved : goal.loop-attempt-preserved
loop-attempt-preserved g c =
    let first = c.args.worker.now in
    let v = c.loop-attempt.worker in
    let a = get_or c.args.attempts.now c.loop-attempt.attempt-index attempt.Hand in
    let done = g.F.Fabric.done in
    let excused = g.F.Fabric.excused in
    let tree = g.X.Expand.tree c.args.x.now in
    let passed = c.in-Idle.ensures.answered in
    record {
      alike = Alike-trans first v c.one_attempt.new.worker c.loop-attempt.invariant.alike
          (idle-alike done excused tree v c.one_attempt.new.worker c.loop-attempt.fabric c.one_attempt.new.fabric (tries_of v.number v.shape.stages v.stack v.hand a) passed);
      fits = c.in-Idle.ensures.fits;
      so_far = λ turn v' f' later.
          c.loop-attempt.invariant.so_far turn v' f'
          (subst (λ xs. IsTurn done excused tree v c.loop-attempt.fabric (tries_at first xs) turn v' f') (sym (from-place c.args.attempts.now c.loop-attempt.attempt-index c.loop-attempt-test.true))
          (attempt-on done excused tree first v c.one_attempt.new.worker v' c.loop-attempt.fabric c.one_attempt.new.fabric f' a (drop (c.loop-attempt.attempt-index + 1) c.args.attempts.now) turn
          c.loop-attempt.invariant.alike passed later));
    }

pub returns-in_default : goal.returns-in_default
returns-in_default g c =
    let first = c.args.worker.now in
    let v = c.loop-attempt.worker in
    let a = get_or c.args.attempts.now c.loop-attempt.attempt-index attempt.Hand in
    let done = g.F.Fabric.done in
    let excused = g.F.Fabric.excused in
    let tree = g.X.Expand.tree c.args.x.now in
    record {
      answered =
          c.loop-attempt.invariant.so_far c.one_attempt.result c.one_attempt.new.worker c.one_attempt.new.fabric
          (subst (λ xs. IsTurn done excused tree v c.loop-attempt.fabric (tries_at first xs) c.one_attempt.result c.one_attempt.new.worker c.one_attempt.new.fabric)
          (sym (from-place c.args.attempts.now c.loop-attempt.attempt-index c.loop-attempt-test.true))
          (attempt-made done excused tree first v c.one_attempt.new.worker c.loop-attempt.fabric c.one_attempt.new.fabric a (drop (c.loop-attempt.attempt-index + 1) c.args.attempts.now)
          c.one_attempt.result
          c.loop-attempt.invariant.alike c.in_default.not-Idle c.one_attempt.ensures.answered));
      fits = c.one_attempt.ensures.fits;
    }
