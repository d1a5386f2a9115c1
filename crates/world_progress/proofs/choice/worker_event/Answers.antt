use Rattle.std.proofs.Common.{◌≡◌, false, true, refl, sym, ap, ◌∙◌, Some, None, [], ◌∷◌}
use Rattle.bfs_budget.specs.declared.tries.Attempt.TheVariants as attempt
use Rattle.dfs_worker.specs.declared.hand.Hand.TheVariants.{Free}
use Rattle.dfs_worker.specs.State.{is_free, is_over}
use Rattle.dfs_worker.proofs.Facts.{free-hand}
use Rattle.world_progress.specs.Choice.{AllFail}
use Rattle.world_progress.proofs.Tries.{if-none, some-of, idle-hand, idle-empty, idle-waits}
use Rattle.world_progress.proofs.choice.worker_event.Goals as goal

pub returns-then-not-is_free-clause-none : goal.returns-then-not-is_free-clause-none
returns-then-not-is_free-clause-none g c =
    if-none _ _ c.first_of.result c.first_of.ensures.none (λ fails.
    idle-hand c.args.world.now c.args.w c.worker-worker.result.now c.worker-worker.ensures.at
    (λ e. let clash : false ≡ true = sym c.if-not-is_free.true ∙ c.is_free.ensures ∙ ap is_free (c.hand.ensures ∙ e) in cc)
    (fails 0 attempt.Hand refl))

pub returns-in_default-clause-none : goal.returns-in_default-clause-none
returns-in_default-clause-none g c =
    if-none _ _ c.by_policy.result c.by_policy.ensures.none
    (idle-empty c.args.world.now c.args.w c.worker-worker.result.now c.worker-worker.ensures.at
    (free-hand c.worker-worker.result.now.hand (ap is_free (sym c.hand.ensures) ∙ sym c.is_free.ensures ∙ c.if-not-is_free.false))
    c.in_default.ensures)

pub returns-then-is_some-clause-none : goal.returns-then-is_some-clause-none
returns-then-is_some-clause-none g c =
    let child = some-of c.in-Some.top.now.wait (sym c.is_some.ensures ∙ c.if-is_some.true) in
    if-none _ _ c.waiting_event.result c.waiting_event.ensures.none
    (idle-waits c.args.world.now c.args.w c.worker-worker.result.now c.in-Some.top.now c.in-Some.ensures.0 child.0 c.worker-worker.ensures.at
    (free-hand c.worker-worker.result.now.hand (ap is_free (sym c.hand.ensures) ∙ sym c.is_free.ensures ∙ c.if-not-is_free.false))
    c.in-Some.ensures.1 child.1 (sym c.is_over.ensures ∙ c.if-is_over.false))
