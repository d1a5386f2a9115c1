use Rattle.std.proofs.Common.{◌≡◌, ◌-◌, refl, ap, subst, ◌∙◌, arith}
use Rattle.dfs_worker.specs.State.{State}
use Rattle.dfs_worker.specs.Turn.{IsTurn, pops_from}
use Rattle.dfs_worker.proofs.Sweeps.{pops-on, pops-made}
use Rattle.dfs_worker.proofs.tries.pops.Goals as goal

pub loop-stage-preserved : goal.loop-stage-preserved
loop-stage-preserved g c = record {
  same = c.in-Idle.ensures.kept refl ∙ c.loop-stage.invariant.same;
  low = omega arith;
  fits = c.in-Idle.ensures.tried.fits;
  lowest_is = c.loop-stage.invariant.lowest_is;
  so_far = λ turn v f rest.
      c.loop-stage.invariant.so_far turn v f
      (pops-on g.F.Fabric.done g.F.Fabric.excused (g.X.Expand.tree c.args.x.now) c.loop-stage.worker c.pop.new.worker v c.loop-stage.fabric c.pop.new.fabric f c.args.worker.now.number
      c.max-lowest.result c.loop-stage.stage turn
      (ap (λ (u : State). u.number) c.loop-stage.invariant.same) c.loop-stage-test.true c.in-Idle.ensures.tried.answered rest);
}

pub returns-in_default : goal.returns-in_default
returns-in_default g c =
    let made =
    c.loop-stage.invariant.so_far c.pop.result c.pop.new.worker c.pop.new.fabric
    (pops-made g.F.Fabric.done g.F.Fabric.excused (g.X.Expand.tree c.args.x.now) c.loop-stage.worker c.pop.new.worker c.loop-stage.fabric c.pop.new.fabric c.args.worker.now.number
    c.max-lowest.result c.loop-stage.stage c.pop.result
    (ap (λ (u : State). u.number) c.loop-stage.invariant.same) c.loop-stage-test.true c.in_default.not-Idle c.pop.ensures.tried.answered) in
    record {
      tried = record {
        answered = subst (λ k. IsTurn g.F.Fabric.done g.F.Fabric.excused (g.X.Expand.tree c.args.x.now) c.args.worker.now c.args.fabric.now
            (pops_from c.args.worker.now.number k (c.args.worker.now.shape.stages - k)) c.pop.result c.pop.new.worker c.pop.new.fabric) c.loop-stage.invariant.lowest_is made;
        fits = c.pop.ensures.tried.fits;
      };
      kept = λ e. absurd {A = c.pop.new.worker ≡ c.args.worker.now} (c.in_default.not-Idle e);
    }
