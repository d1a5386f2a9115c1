use Rattle.std.proofs.Common.{◌∙◌, sym, subst}
use Rattle.dfs_worker.specs.Turn.{IsTurn}
use Rattle.dfs_worker.proofs.Rounds.{hand-tries}
use Rattle.dfs_worker.proofs.turns.attempts_in_turn.Goals as goal

pub returns-then-not-is_free : goal.returns-then-not-is_free
returns-then-not-is_free g c = record {
  answered =
      subst (λ ts. IsTurn g.F.Fabric.done g.F.Fabric.excused (g.X.Expand.tree c.args.x.now) c.args.worker.now c.args.fabric.now ts c.hand_step.result c.hand_step.new.worker c.hand_step.new.fabric)
      (sym (hand-tries c.args.worker.now _ (sym c.is_free.ensures ∙ c.if-not-is_free.true))) c.hand_step.ensures.answered;
  fits = c.hand_step.ensures.fits;
}
